-- No number is in the words below k.
use Rattle.std.proofs.Common.{◌≡◌, false, ◌*◌}
use Rattle.finite.specs.Tests.{any}
use Rattle.bitset.specs.Set.{has}
use Rattle.bitset.proofs.set.BitSet.lowest.Given as goal

abbrev pub invariant-loop-k : goal.invariant-loop-k
invariant-loop-k g l = any (8 * l.k * 8) (has l.self) ≡ false
