-- A block written: the copy of a node, or a row.
use Rattle.std.proofs.Common.{◌∙◌, ap, sym, arith}
use Rattle.semantics.specs.Block.{Block, emit}
use Rattle.blocks.specs.Write.{puts}
use Rattle.blocks.proofs.Laws.Rows.{sized_copy, spelled-none, spelled-some}
use Rattle.blocks.proofs.Laws.Write.{puts_single}
use Rattle.blocks.proofs.write.Goals as goal

pub put_node-requires : goal.put_node-requires
put_node-requires c =
    omega (arith, rw c.in-None.is at c.requires.room, sized_copy.right c.args.node.kind c.args.node.param c.args.node.left c.args.node.right)

pub write_row-requires-clause-room : goal.write_row-requires-clause-room
write_row-requires-clause-room c =
    rw (spelled-some c.args.node.kind c.args.node.param c.args.node.left c.args.node.right c.in-Some.is) at c.requires.room

pub returns-in-None : goal.returns-in-None
returns-in-None c =
    c.put_node.ensures
    ∙ puts_single c.args.out.now c.args.at _ (c.copied.ensures c.args.at)
    ∙ ap (λ (B : Block). puts c.args.out.now c.args.at 0 (emit B c.args.at)) (sym (spelled-none c.args.node.kind c.args.node.param c.args.node.left c.args.node.right c.in-None.is))

pub returns-in-Some : goal.returns-in-Some
returns-in-Some c = rw (spelled-some c.args.node.kind c.args.node.param c.args.node.left c.args.node.right c.in-Some.is) c.write_row.ensures
