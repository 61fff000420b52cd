-- The nodes from i on are emitted.
use Rattle.emitting.proofs.Laws.Emitted.{EmittedFrom}
use Rattle.emitting.specs.State.{Emitting}
use Rattle.sheet.specs.Bytes.{edit_of}
use Rattle.emitting.proofs.plan.Plan.emit_all.Given as goal

abbrev pub invariant-loop-i : goal.invariant-loop-i
invariant-loop-i l =
    record { so_far : Emitting l.self.table.now (edit_of l.self.edit) l.initial.stages l.initial.out l.stages l.out; emitted : EmittedFrom l.stages l.i l.self.nodes }
