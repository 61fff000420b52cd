-- The first i steps are made.
use Rattle.std.proofs.Common.{refl, sym, arith}
use Rattle.chaining.proofs.Laws.Walk.{walk_start, walk_next, walk_on, walk_more, walk_done}
use Rattle.chaining.proofs.descend.Goals as goal

pub loop-i-init : goal.loop-i-init
loop-i-init c = (omega arith, rw c.from-last.ensures (walk_start c.requires.chain_value c.requires.away))

pub unreachable-requires : goal.unreachable-requires
unreachable-requires c =
    let layered = rw (sym c.from-last.ensures) at c.requires.layered in
    walk_on c.args.layers.now c.reverse-back.ensures layered c.loop-i.invariant.1 (omega arith) c.read-layer.ensures.bytes refl
    (c.type_inv.chain c.loop-i.i).fits (c.in_default.ensures.none refl)

pub loop-i-preserved : goal.loop-i-preserved
loop-i-preserved c =
    let layered = rw (sym c.from-last.ensures) at c.requires.layered in
    let next = walk_next c.args.layers.now c.reverse-back.ensures layered c.loop-i.invariant.1 (omega arith) c.read-layer.ensures.bytes refl
    (omega arith) c.in-Some.ensures.some.1 in
    (omega arith, walk_more c.loop-i.invariant.1 (omega arith) next (omega arith) (omega arith))

pub returns : goal.returns
returns c = rw c.from-last.ensures at (walk_done c.loop-i.invariant.1 (omega arith) (omega arith))
