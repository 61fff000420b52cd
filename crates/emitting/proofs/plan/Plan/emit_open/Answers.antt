-- The node, and then what is below it where one of its children waits.
use Rattle.emitting.proofs.Laws.Deep.{deep_one, paid_one}
use Rattle.emitting.proofs.Laws.Emitted.{emitting_then, emittable_then}
use Rattle.emitting.proofs.plan.Plan.emit_open.Goals as goal

pub emit_under-requires-clause-emittable : goal.emit_under-requires-clause-emittable
emit_under-requires-clause-emittable c = emittable_then c.requires.emittable c.emit-under.ensures.emitting

pub returns-then-under-clause-emitting : goal.returns-then-under-clause-emitting
returns-then-under-clause-emitting c = emitting_then c.emit-under.ensures.emitting c.emit_under.ensures.emitting

pub returns-then-under-clause-emitted : goal.returns-then-under-clause-emitted
returns-then-under-clause-emitted c = c.emit_under.ensures.emitting.stays _ c.emit-under.ensures.emitted

pub returns-then-under-clause-deep : goal.returns-then-under-clause-deep
returns-then-under-clause-deep c = paid_one c.emit-under.ensures.one c.emit_under.ensures.emitting c.emit_under.ensures.deep (λ q. c.emit_under.ensures.children)

pub returns-else-under-clause-deep : goal.returns-else-under-clause-deep
returns-else-under-clause-deep c = deep_one c.emit-under.ensures.one c.if-under.false
