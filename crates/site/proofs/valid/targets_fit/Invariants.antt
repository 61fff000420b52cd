-- The targets of the slots below 32 * k fit.
use Rattle.std.proofs.Common.{◌+◌, ◌≡◌, true, ◌*◌, ◌≤◌, get_or}
use Rattle.bitset.specs.Set.{set_bytes, set_slots}
use Rattle.finite.specs.Tests.{all}
use Rattle.site.specs.Inside.{target_inside}
use Rattle.site.specs.Layout.{target_at}
use Rattle.limits.specs.Limits.{general_links}
use Rattle.site.proofs.valid.targets_fit.Given as goal

abbrev pub invariant-loop-k : goal.invariant-loop-k
invariant-loop-k l = (set_bytes * l.k ≤ set_slots) × (all (set_bytes * l.k) (λ s. target_inside l.onsite s (get_or l.site (target_at (general_links + l.f.number) s) 0)) ≡ true)
