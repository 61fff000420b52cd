-- The condition, and the closing "and" over the last node before it.
use Rattle.std.proofs.Common.{◌∙◌, ◌<◌, ap, sym, arith, refl}
use Rattle.own_conditions.proofs.Laws.Nodes.{put_as, put-none, put_long, put-closed}
use Rattle.own_conditions.specs.Condition.{meaning, meanings}
use Rattle.semantics.specs.Block.{size}
use Rattle.own_conditions.proofs.put_behind.Goals as goal

pub returns-in_default : goal.returns-in_default
returns-in_default c = put-none _ c.args.out.now c.args.n (sym c.of.ensures ∙ ap meanings c.in_default.is) (omega arith)

pub returns-then-made-gt-TABLE_NODES : goal.returns-then-made-gt-TABLE_NODES
returns-then-made-gt-TABLE_NODES c =
    let some : 0 < size (meaning c.in-Some.condition) = omega (arith, c.nodes.ensures) in
    put_long (meaning c.in-Some.condition) c.args.n some _ c.args.out.now (sym c.of.ensures ∙ ap meanings c.in-Some.is) (rw c.nodes.ensures.0 refl) (omega arith)

pub returns : goal.returns
returns c =
    let some : 0 < size (meaning c.in-Some.condition) = omega (arith, c.nodes.ensures) in
    put-closed (meaning c.in-Some.condition) c.args.n some _ c.args.out.now (sym c.of.ensures ∙ ap meanings c.in-Some.is) (rw c.nodes.ensures.0 refl) (omega arith) c.put.ensures
    (rw (← c.nodes.ensures.0) (put_as _ _ c.put_node.ensures c.over_both.ensures))
