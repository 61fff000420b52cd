-- The first i steps are made.
use Rattle.std.proofs.Common.{◌≤◌}
use Rattle.chaining.specs.Rounds.{set_no}
use Rattle.chaining.specs.Walk.{Walking}
use Rattle.site.specs.Site.{site_of}
use Rattle.site.specs.Ways.{meant}
use Rattle.chaining.proofs.descend.Given as goal

abbrev pub invariant-loop-i : goal.invariant-loop-i
invariant-loop-i l = (l.i ≤ l.last) × Walking (site_of l.site) (meant l.fn.way) (set_no l.layers 0) l.start l.last l.chain l.i
