-- A round puts in what slot t leads to.
use Rattle.modal.proofs.Laws.Gather.{gathered_more, gathered_done}
use Rattle.modal.proofs.image.Goals as goal

pub loop-t-preserved : goal.loop-t-preserved
loop-t-preserved c = gathered_more c.loop-t.invariant c.in-Some.ensures.steps c.add_targets.ensures

pub returns : goal.returns
returns c = gathered_done c.loop-t.invariant c.in-None.ensures.steps
