-- The slots below s are put into rows.
use Rattle.neighbours.proofs.Laws.Steps.{Sourced}
use Rattle.neighbours.proofs.put_sources.Given as goal

abbrev pub invariant-loop-s : goal.invariant-loop-s
invariant-loop-s l = Sourced l.rows l.reached l.s l.dense l.back
