-- The first edits went through, and what is left of the sheet says the same of the site left.
use Rattle.applying.proofs.Laws.Run.{Progress}
use Rattle.applying.proofs.run.Given as goal

abbrev pub invariant-loop-k : goal.invariant-loop-k
invariant-loop-k l = Progress l.edition l.initial.site l.sheet l.site l.k
