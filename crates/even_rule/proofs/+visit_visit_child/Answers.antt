-- `even_rule::visit` and `even_rule::visit_child`, a cycle of calls: what each leaves is one law. The measure is the bound i, which a call lowers
-- to the node's own number.
use Rattle.even_rule.proofs.Laws.Pass.{children, finish}
use Rattle.even_rule.proofs.+visit_visit_child.Goals as goal

pub visit-word_of-w-requires-clause-children : goal.visit-word_of-w-requires-clause-children
visit-word_of-w-requires-clause-children t c = children c.requires c.if-i-c.false c.left-l.ensures.0 c.right-r.ensures.0 c.visit_child.ensures c.visit_child-2.ensures

pub visit-returns : goal.visit-returns
visit-returns t c = finish c.requires c.if-i-c.false c.left-l.ensures.0 c.right-r.ensures.0 c.visit_child.ensures c.visit_child-2.ensures c.word_of-w.ensures

pub visit_child-word_of-w-requires-clause-children : goal.visit_child-word_of-w-requires-clause-children
visit_child-word_of-w-requires-clause-children t c = children c.requires c.if-i-c.false c.left-l.ensures.0 c.right-r.ensures.0 c.visit.ensures c.visit-2.ensures

pub visit_child-returns : goal.visit_child-returns
visit_child-returns t c = finish c.requires c.if-i-c.false c.left-l.ensures.0 c.right-r.ensures.0 c.visit.ensures c.visit-2.ensures c.word_of-w.ensures
