-- The code computes the weight of the slot as 1 << (s % 8).
use Rattle.bitset.proofs.Laws.Slot.{weight}
use Rattle.bitset.specs.Set.{removed}
use Rattle.bitset.proofs.remove.Goals as goal

pub returns : goal.returns
unfolding removed
returns c = rw (weight c.args.s)
