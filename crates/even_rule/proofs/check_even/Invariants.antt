-- No node before i is uneven.
use Rattle.std.proofs.Common.{false, not, ◌≡◌}
use Rattle.condition.specs.Bytes.{table_of}
use Rattle.finite.specs.Tests.{any}
use Rattle.semantics.specs.Form.{even}
use Rattle.semantics.specs.Table.{tree_at}
use Rattle.even_rule.proofs.check_even.Given as goal

abbrev pub invariant-loop-i : goal.invariant-loop-i
invariant-loop-i l = any l.i (λ j. not (even (tree_at (table_of l.table) j))) ≡ false
