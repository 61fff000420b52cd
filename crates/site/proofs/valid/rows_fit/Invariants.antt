-- The rows of the slots below s fit.
use Rattle.std.proofs.Common.{◌≡◌, true, ◌≤◌}
use Rattle.bitset.specs.Set.{set_slots}
use Rattle.finite.specs.Tests.{all}
use Rattle.site.specs.Inside.{row_inside}
use Rattle.site.specs.Layout.{row_at}
use Rattle.site.proofs.valid.rows_fit.Given as goal

abbrev pub invariant-loop-s : goal.invariant-loop-s
invariant-loop-s l = (l.s ≤ set_slots) × (all l.s (λ k. row_inside l.site (row_at l.fn.m.number k) l.onsite k) ≡ true)
