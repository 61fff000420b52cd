-- The rows of the slots that are left are still without c.
use Rattle.std.proofs.Common.{◌&&◌}
use Rattle.finite.specs.Tests.{same}
use Rattle.bitset.specs.Set.{has}
use Rattle.partition.proofs.Laws.Gains.{Lacks}
use Rattle.bitset.specs.Numbers.{numbers_left}
use Rattle.partition.proofs.put.Given as goal

abbrev pub invariant-loop-s : goal.invariant-loop-s
invariant-loop-s l = Lacks (λ s t. has l.fn.slots s && same t l.c) (λ s t. has (numbers_left l.s-iterator.set l.s-iterator.begun l.s-iterator.word) s && same t l.c) l.initial.rows l.rows
