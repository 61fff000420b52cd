-- The masks before i are those of the words.
use Rattle.std.proofs.Common.{length, ◌-◌, ◌≤◌, ◌≡◌}
use Rattle.even_rule.specs.Masks.{United}
use Rattle.limits.specs.Limits.{table_nodes}
use Rattle.even_rule.proofs.unite.Given as goal

abbrev pub invariant-loop-i : goal.invariant-loop-i
invariant-loop-i l = (l.i ≤ l.n) × (length l.free ≡ table_nodes) × United l.words l.initial.free l.free l.i

abbrev pub decreases-loop-i : goal.decreases-loop-i
decreases-loop-i l = l.n - l.i
