-- The steps of a row, node by node.
use Rattle.std.proofs.Common.{◌≡◌, ◌+◌, ◌∙◌, ap, arith, length}
use Rattle.blocks.proofs.Laws.Rows.{row_count, row_written}
use Rattle.blocks.proofs.Laws.Write.{made_none, made_more}
use Rattle.blocks.specs.Steps.{node_of}
use Rattle.blocks.specs.Write.{put}
use Rattle.blocks.proofs.write_row.Goals as goal

pub loop-place-init : goal.loop-place-init
loop-place-init c = made_none (node_of c.numbers-numbers.result c.args.at c.args.image) c.args.out.now c.args.at c.steps_of-steps.result.now

pub put_node-requires : goal.put_node-requires
put_node-requires c =
    omega (arith, row_count c.args.spelling c.args.own c.args.image c.steps_of-steps.ensures, c.requires.room)

pub loop-place-preserved : goal.loop-place-preserved
loop-place-preserved c =
    made_more (node_of c.numbers-numbers.result c.args.at c.args.image) c.args.out.now c.args.at c.steps_of-steps.result.now c.loop-place.place _ c.loop-place-test.true c.loop-place.invariant
    (c.put_node.ensures ∙ ap (put c.loop-place.out (c.args.at + c.loop-place.place)) c.node.ensures)

pub returns : goal.returns
returns c =
    let e : c.loop-place.place ≡ length c.steps_of-steps.result.now = omega arith in
    row_written c.args.spelling c.args.own c.args.image c.args.at c.args.out.now c.steps_of-steps.ensures (rw (← e, ← c.numbers-numbers.ensures) c.loop-place.invariant)
