-- The kind, the parameter and the children, each by its bound.
use Rattle.std.proofs.Common.{◌∙◌}
use Rattle.condition.specs.Bytes.{node_at}
use Rattle.condition.proofs.Laws.Limits.{all_fields}
use Rattle.condition.proofs.node_fits.Goals as goal

pub returns : goal.returns
returns c = let p = c.from.ensures ∙ c.param.ensures in
    all_fields c.args.i (node_at c.args.table.now c.args.i) c.kind-k.ensures p c.param_limit.ensures c.left.ensures.0 c.child_limit.ensures c.right.ensures.0 c.child_limit-2.ensures
