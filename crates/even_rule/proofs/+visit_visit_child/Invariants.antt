-- `even_rule::visit` and `even_rule::visit_child`, a cycle of calls: what each leaves is one law. The measure is the bound i, which a call lowers
-- to the node's own number.
use Rattle.even_rule.proofs.+visit_visit_child.Given as goal

abbrev pub decreases-visit : goal.decreases-visit
decreases-visit l = l.i

abbrev pub decreases-visit_child : goal.decreases-visit_child
decreases-visit_child l = l.i
