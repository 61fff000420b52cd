-- In the rows of the slots that are left the dense ones are the other way.
use Rattle.neighbours.proofs.Laws.Steps.{Mended}
use Rattle.bitset.specs.Numbers.{numbers_left}
use Rattle.neighbours.proofs.reverse.Given as goal

abbrev pub invariant-loop-t : goal.invariant-loop-t
invariant-loop-t l = Mended l.rows l.dense (numbers_left l.t-iterator.set l.t-iterator.begun l.t-iterator.word) l.back
