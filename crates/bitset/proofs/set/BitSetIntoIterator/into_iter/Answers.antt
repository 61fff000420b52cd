-- No word is begun.
use Rattle.std.proofs.Common.{refl}
use Rattle.bitset.specs.Numbers.{numbers_left}
use Rattle.bitset.proofs.set.BitSetIntoIterator.into_iter.Goals as goal

pub returns : goal.returns
unfolding numbers_left
returns g c = record { into_iter_gives = refl }
