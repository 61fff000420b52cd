-- The sets of the labels below p lie inside the slots on site.
use Rattle.std.proofs.Common.{◌≡◌, true, ◌≤◌}
use Rattle.finite.specs.Tests.{all}
use Rattle.limits.specs.Limits.{labels}
use Rattle.site.specs.Inside.{inside}
use Rattle.site.specs.Layout.{label_at}
use Rattle.site.proofs.valid.labels_fit.Given as goal

abbrev pub invariant-loop-p : goal.invariant-loop-p
invariant-loop-p l = (l.p ≤ labels) × (all l.p (λ q. inside l.site (label_at q) l.onsite) ≡ true)
