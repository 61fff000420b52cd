-- The links below m have their rows, and the rows of their reverses; the rows of the other reverses are empty.
use Rattle.site.specs.Site.{site_of}
use Rattle.neighbours.proofs.Laws.Steps.{Upto}
use Rattle.neighbours.proofs.of_site.Given as goal

abbrev pub invariant-loop-m : goal.invariant-loop-m
invariant-loop-m l = Upto (site_of l.site) l.m l.ahead l.back l.used
