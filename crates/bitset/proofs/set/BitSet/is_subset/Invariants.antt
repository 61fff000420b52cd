-- The numbers of the words below k pass where nothing is outside.
use Rattle.std.proofs.Common.{not, ◌||◌, ◌*◌}
use Rattle.bitset.specs.Set.{has}
use Rattle.bitset.proofs.Laws.Test.{Tested}
use Rattle.bitset.proofs.set.BitSet.is_subset.Given as goal

abbrev pub invariant-loop-k : goal.invariant-loop-k
invariant-loop-k g l = Tested (λ s. not (has l.self s) || has l.other s) (8 * l.k) l.outside
