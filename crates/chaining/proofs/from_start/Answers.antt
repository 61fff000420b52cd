-- The rounds on meet the goal, and of their slots those that lead on are kept; or they tell what can be reached.
use Rattle.std.proofs.Common.{◌∙◌, ap}
use Rattle.finite.specs.Tests.{same}
use Rattle.site.specs.Ways.{meant}
use Rattle.chaining.proofs.Laws.Searched.{start_none, start_found}
use Rattle.chaining.proofs.from_start.Goals as goal

pub returns-in-Steps : goal.returns-in-Steps
returns-in-Steps c = start_found (meant c.args.way) c.reverse.ensures c.ranges.start.fits (λ t h. c.single-one.ensures t h ∙ ap (same t) c.from.ensures)
    c.in-Steps.ensures c.prune.ensures

pub returns-in-Reached : goal.returns-in-Reached
returns-in-Reached c = start_none (meant c.args.way) c.reverse.ensures c.ranges.start.fits (λ t h. c.single-one.ensures t h ∙ ap (same t) c.from.ensures)
    c.in-Reached.ensures
