-- The number after the image before.
use Rattle.std.proofs.Common.{arith}
use Rattle.emitting.proofs.Laws.Numbered.{start_after, start_first}
use Rattle.emitting.proofs.plan.Plan.start.Goals as goal

pub returns-then-c-eq0 : goal.returns-then-c-eq0
returns-then-c-eq0 c = start_first _ _ c.if-c-eq0.true

pub returns : goal.returns
returns c = start_after _ _ (omega arith) c.from.ensures
