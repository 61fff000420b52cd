-- A copy, or the block of the node's spelling.
use Rattle.std.proofs.Common.{refl, arith}
use Rattle.emitting.proofs.Laws.Emitted.{start_small, block_room, block_written, image_room, copy_written}
use Rattle.emitting.proofs.plan.Plan.write_block.Goals as goal

pub put_node-requires : goal.put_node-requires
put_node-requires c = let P = c.args.self.now in image_room P.fits P.numbered c.args.c c.requires.below c.from.ensures c.requires.room

pub write-requires : goal.write-requires
write-requires c =
    let P = c.args.self.now in
    record {
      numbers = omega (arith, c.start.ensures, start_small P.fits P.numbered c.args.c c.requires.below);
      room =
          block_room P.fits P.numbered c.args.c c.requires.below c.spell-spelling.ensures c.kind.ensures c.param.ensures c.requires.fields.0 c.requires.fields.1 refl refl
          c.start.ensures c.requires.room;
    }

pub returns-in-ToCopy : goal.returns-in-ToCopy
returns-in-ToCopy c =
    let P = c.args.self.now in
    copy_written P.fits P.numbered c.args.c c.requires.below (c.requires.copy c.in-ToCopy.is) c.kind.ensures c.param.ensures c.requires.fields.0 c.requires.fields.1 refl refl
    c.copied.ensures c.args.out.now c.from.ensures c.put_node.ensures

pub returns-in_default : goal.returns-in_default
returns-in_default c =
    let P = c.args.self.now in
    block_written P.fits P.numbered c.args.c c.requires.below c.spell-spelling.ensures c.kind.ensures c.param.ensures c.requires.fields.0 c.requires.fields.1 refl refl
    c.args.out.now c.start.ensures c.write.ensures
