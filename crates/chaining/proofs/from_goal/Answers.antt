-- The rounds back meet the start; or they do not, and the rounds on tell what can be reached.
use Rattle.std.proofs.Common.{◌∙◌, ap}
use Rattle.finite.specs.Tests.{same}
use Rattle.chaining.proofs.Laws.Searched.{goal_found, goal_reached}
use Rattle.chaining.proofs.from_goal.Goals as goal

pub returns-in-Steps : goal.returns-in-Steps
returns-in-Steps c = goal_found c.ranges.start.fits (λ t h. c.single-one.ensures t h ∙ ap (same t) c.from.ensures) c.in-Steps.ensures

pub returns-in-Reached : goal.returns-in-Reached
returns-in-Reached c =
    goal_reached c.ranges.start.fits (λ t h. c.single-one.ensures t h ∙ ap (same t) c.from.ensures) c.reverse-back.ensures c.in-Reached.ensures c.empty-nowhere.ensures _ _
    c.spread-in-Reached.ensures
