-- Where the 32 are none, they fit. Else the targets below j fit.
use Rattle.std.proofs.Common.{◌≡◌, true, ◌+◌, ◌*◌, ◌≤◌, get_or}
use Rattle.bitset.specs.Set.{set_bytes}
use Rattle.finite.specs.Tests.{all}
use Rattle.site.specs.Inside.{target_inside}
use Rattle.site.specs.Layout.{target_at}
use Rattle.limits.specs.Limits.{general_links}
use Rattle.site.proofs.valid.targets_fit_from.Given as goal

abbrev pub invariant-loop-j : goal.invariant-loop-j
invariant-loop-j l = (l.j ≤ set_bytes)
    × (all l.j (λ i. target_inside l.onsite (set_bytes * l.k + i) (get_or l.site (target_at (general_links + l.f.number) (set_bytes * l.k + i)) 0)) ≡ true)
