-- The links below m fit.
use Rattle.std.proofs.Common.{◌≡◌, true, not, ◌≤◌}
use Rattle.finite.specs.Tests.{all}
use Rattle.limits.specs.Limits.{links}
use Rattle.site.specs.Refusal.{touches}
use Rattle.site.specs.Site.{site_of}
use Rattle.site.proofs.valid.links_fit.Given as goal

abbrev pub invariant-loop-m : goal.invariant-loop-m
invariant-loop-m l = (l.m ≤ links) × (all l.m (λ k. not (touches (site_of l.site) k)) ≡ true)
