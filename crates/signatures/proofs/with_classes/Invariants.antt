-- The classes that the slots that are left are in are to come.
use Rattle.std.specs.Prelude.{◌||◌}
use Rattle.bitset.specs.Set.{has}
use Rattle.bitset.specs.Numbers.{numbers_left}
use Rattle.partition.specs.Rows.{sees}
use Rattle.signatures.proofs.Laws.Seen.{Sees}
use Rattle.signatures.proofs.with_classes.Given as goal

abbrev pub invariant-loop-t : goal.invariant-loop-t
invariant-loop-t l = Sees (λ x. has l.fn.seen x || sees l.fn.set l.numbers x) l.numbers (numbers_left l.t-iterator.set l.t-iterator.begun l.t-iterator.word) l.seen
