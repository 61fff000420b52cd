-- The numbers of the slots that were looked at are in the set.
use Rattle.classes.proofs.Laws.Different.{Numbers}
use Rattle.classes.proofs.count.Given as goal

abbrev pub invariant-loop-class : goal.invariant-loop-class
invariant-loop-class l = Numbers l.classes l.class-index l.seen
