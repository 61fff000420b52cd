-- The nodes from i on are done.
use Rattle.std.proofs.Common.{◌≤◌}
use Rattle.even_rule.specs.Masks.{Visitable, DoneFrom}
use Rattle.even_rule.proofs.visit_all.Given as goal

abbrev pub invariant-loop-i : goal.invariant-loop-i
invariant-loop-i l = (l.i ≤ l.n) × Visitable l.table l.words l.n × DoneFrom l.table l.words l.i

abbrev pub decreases-loop-i : goal.decreases-loop-i
decreases-loop-i l = l.i
