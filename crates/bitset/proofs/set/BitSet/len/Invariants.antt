-- n is the count of the numbers of the words below the index.
use Rattle.std.proofs.Common.{◌≡◌, ◌*◌}
use Rattle.finite.specs.Tests.{count}
use Rattle.bitset.specs.Set.{has}
use Rattle.bitset.proofs.set.BitSet.len.Given as goal

abbrev pub invariant-loop-w : goal.invariant-loop-w
invariant-loop-w g l = l.n ≡ count (8 * l.w-index * 8) (has l.self)
