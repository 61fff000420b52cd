-- The nodes from i on are emitted.
use Rattle.std.proofs.Common.{arith}
use Rattle.emitting.proofs.Laws.Emitted.{emitting_none, emitting_then, emittable_then, emitted_more, all_written}
use Rattle.emitting.proofs.plan.Plan.emit_all.Goals as goal

pub loop-i-init : goal.loop-i-init
loop-i-init c = record { so_far = emitting_none; emitted = λ j a b. absurd (omega arith) }

pub emit_open-requires-clause-emittable : goal.emit_open-requires-clause-emittable
emit_open-requires-clause-emittable c = emittable_then c.requires.emittable c.loop-i.invariant.so_far

pub loop-i-preserved : goal.loop-i-preserved
loop-i-preserved c = record {
  so_far = emitting_then c.loop-i.invariant.so_far c.emit_open.ensures.emitting;
  emitted =
      emitted_more c.emit_open.ensures.emitting c.emit_open.ensures.emitted (λ j a b. c.loop-i.invariant.emitted j (omega arith) b);
}

pub returns : goal.returns
returns c = all_written c.loop-i.invariant.so_far c.requires.none (λ j a b. c.loop-i.invariant.emitted j (omega arith) b)
