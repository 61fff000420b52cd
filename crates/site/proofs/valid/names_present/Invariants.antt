-- The names below n are at present slots.
use Rattle.std.proofs.Common.{◌≡◌, true, ◌≤◌}
use Rattle.finite.specs.Tests.{all}
use Rattle.limits.specs.Limits.{names}
use Rattle.site.specs.Site.{site_of}
use Rattle.site.proofs.valid.names_present.Given as goal

abbrev pub invariant-loop-n : goal.invariant-loop-n
invariant-loop-n l = (l.n ≤ names) × (all l.n (λ k. (site_of l.site).present ((site_of l.site).place k)) ≡ true)
