-- The slots of the set from which the way back leads to x.
use Rattle.std.proofs.Common.{◌∙◌, ap}
use Rattle.finite.specs.Tests.{same}
use Rattle.chaining.proofs.Laws.Sets.{nearest_some, nearest_none}
use Rattle.chaining.proofs.nearest.Goals as goal

pub returns-clause-some : goal.returns-clause-some
returns-clause-some c = nearest_some c.args.x (λ t h. c.single-one.ensures t h ∙ ap (same t) c.from.ensures) c.among.ensures _ c.lowest.ensures.some

pub returns-clause-none : goal.returns-clause-none
returns-clause-none c = λ n. nearest_none c.args.x (λ t h. c.single-one.ensures t h ∙ ap (same t) c.from.ensures) c.among.ensures (c.lowest.ensures.none n)
