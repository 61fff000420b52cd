-- The labels below p are put in, and then the names below n.
use Rattle.std.proofs.Common.{◌&&◌, ◌+◌}
use Rattle.finite.specs.Tests.{same, any}
use Rattle.site.specs.Site.{site_of}
use Rattle.partition.specs.Gains.{Gains}
use Rattle.classes.specs.Features.{labels_from, names_from}
use Rattle.classes.proofs.features_of.Given as goal

abbrev pub invariant-loop-p : goal.invariant-loop-p
invariant-loop-p l = Gains (λ s c. any l.p (λ p. (site_of l.site).marked p s && same c (labels_from + p))) l.initial.rows l.rows

abbrev pub invariant-loop-n : goal.invariant-loop-n
invariant-loop-n l = Gains (λ s c. any l.n (λ n. same s ((site_of l.site).place n) && same c (names_from + n))) l.initial.rows l.rows
