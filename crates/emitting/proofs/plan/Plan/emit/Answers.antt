-- A node that waits has its block written.
use Rattle.std.proofs.Common.{refl}
use Rattle.emitting.proofs.Laws.Emitted.{has_room, emitted}
use Rattle.emitting.proofs.plan.Plan.emit.Goals as goal

pub write_block-requires-clause-room : goal.write_block-requires-clause-room
write_block-requires-clause-room c = let P = c.args.self.now in has_room P.fits P.numbered c.args.c c.requires.below c.requires.emittable

pub returns-clause-emitting : goal.returns-clause-emitting
returns-clause-emitting c =
    let P = c.args.self.now in
    emitted P.fits P.numbered c.args.c c.requires.below c.requires.emittable c.write_block.ensures refl
