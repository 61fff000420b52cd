-- By the way: along a link the slots of the pool, else the slots that lead into the set, met with the pool.
use Rattle.semantics.specs.Holds.{step}
use Rattle.modal_among.proofs.Laws.Gather.{met}
use Rattle.modal_among.proofs.among.Goals as goal

pub returns-in-Along : goal.returns-in-Along
unfolding step
returns-in-Along c = rw c.in-Along.is (record { holds = c.leading.ensures })

pub returns : goal.returns
returns c = record { holds = met _ _ _ c.diamond.ensures c.bitand.ensures }
