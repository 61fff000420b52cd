-- The code computes the weight of the slot as 1 << (s % 8).
use Rattle.bitset.proofs.Laws.Slot.{weight}
use Rattle.bitset.specs.Set.{inserted}
use Rattle.bitset.proofs.insert.Goals as goal

pub returns : goal.returns
unfolding inserted
returns c = rw (weight c.args.s)
