-- By the diamond, or round by round: a round puts slot s in if the link leads from it into the set.
use Rattle.semantics.specs.Holds.{step}
use Rattle.modal_among.proofs.Laws.Gather.{passed_in, passed_out, passed_done, met}
use Rattle.modal_among.proofs.leading.Goals as goal

pub returns-then-len-ge-FEW : goal.returns-then-len-ge-FEW
unfolding step
returns-then-len-ge-FEW c = met _ _ _ c.diamond.ensures c.bitand.ensures

pub loop-s-preserved-then-leads : goal.loop-s-preserved-then-leads
loop-s-preserved-then-leads c = passed_in c.loop-s.invariant _ c.in-Some.s c.in-Some.ensures.steps c.leads.ensures c.if-leads.true c.insert.ensures

pub loop-s-preserved : goal.loop-s-preserved
loop-s-preserved c = passed_out c.loop-s.invariant _ c.in-Some.s c.in-Some.ensures.steps c.leads.ensures c.if-leads.false

pub returns : goal.returns
returns c = passed_done c.loop-s.invariant c.in-None.ensures.steps
