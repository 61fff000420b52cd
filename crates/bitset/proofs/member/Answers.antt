-- Bit s % 8 of byte s / 8, shifted down and masked.
use Rattle.bitset.specs.Set.{has}
use Rattle.finite.specs.Tests.{bit}
use lib.Bits.{and_mask}
use Rattle.bitset.proofs.member.Goals as goal

pub returns : goal.returns
unfolding has bit
returns c = rw (and_mask _ 1)
