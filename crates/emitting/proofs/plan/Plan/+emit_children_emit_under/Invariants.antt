-- `emit_children` and `emit_under`, a cycle of calls. The measure: twice the node's number; for `emit_children` that of the higher node, and 1 more.
use Rattle.std.proofs.Common.{◌+◌, ◌*◌, max}
use Rattle.emitting.proofs.plan.Plan.+emit_children_emit_under.Given as goal

abbrev pub decreases-emit_children : goal.decreases-emit_children
decreases-emit_children l = 2 * max l.l l.r + 1

abbrev pub decreases-emit_under : goal.decreases-emit_under
decreases-emit_under l = 2 * l.i
