-- No node below i meets item 8.
use Rattle.std.proofs.Common.{false, not, ◌≡◌}
use Rattle.condition.specs.Bytes.{node_at}
use Rattle.finite.specs.Tests.{any}
use Rattle.semantics.specs.Table.{node_fits}
use Rattle.condition.proofs.first_unfit.Given as goal

abbrev pub invariant-loop-i : goal.invariant-loop-i
invariant-loop-i l = any l.i (λ j. not (node_fits j (node_at l.table j))) ≡ false
