-- The evaluator, a cycle of calls. The measure: four times the node's number, 1 more for `fixpoint`, 2 more for `compute` and 3 more for `eval`.
use Rattle.std.proofs.Common.{◌+◌, ◌*◌}
use Rattle.condition.specs.Bytes.{node_at}
use Rattle.listing.proofs.Laws.Rounds.{Looping}
use Rattle.listing.proofs.+binary_compute_eval_fixpoint_fixpoint_from_unary.Given as goal

abbrev pub decreases-binary : goal.decreases-binary
decreases-binary l = 4 * l.i

abbrev pub decreases-compute : goal.decreases-compute
decreases-compute l = 4 * l.i + 2

abbrev pub decreases-eval : goal.decreases-eval
decreases-eval l = 4 * l.i + 3

abbrev pub decreases-fixpoint : goal.decreases-fixpoint
decreases-fixpoint l = 4 * l.i + 1

abbrev pub decreases-fixpoint_from : goal.decreases-fixpoint_from
decreases-fixpoint_from l = 4 * l.i

abbrev pub invariant-fixpoint_from-loop-round : goal.invariant-fixpoint_from-loop-round
invariant-fixpoint_from-loop-round l = Looping l.question.site.now l.question.table.now l.fn.memo l.memo l.work l.limit (node_at l.question.table.now l.i).kind l.variable.number l.body l.set l._round l.total

abbrev pub decreases-unary : goal.decreases-unary
decreases-unary l = 4 * l.i
