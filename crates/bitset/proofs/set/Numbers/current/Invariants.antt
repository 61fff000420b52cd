-- With k words begun, and nothing left of the last, the numbers are those at the start.
use Rattle.std.proofs.Common.{◌*◌}
use Rattle.bitset.specs.Set.{has, Holds}
use Rattle.bitset.specs.Numbers.{numbers_left}
use Rattle.bitset.proofs.set.Numbers.current.Given as goal

abbrev pub invariant-loop-k : goal.invariant-loop-k
invariant-loop-k g l = Holds (64 * g.row.W) (numbers_left l.self.set l.k 0) (has (numbers_left l.fn.self.set l.fn.self.begun l.fn.self.word))
