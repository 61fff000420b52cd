use Rattle.std.proofs.Common.{◌∙◌, sym, ap, ◌+◌, arith}
use Rattle.limits.specs.Limits.{general_links}
use Rattle.finite.specs.Tests.{same}
use Rattle.site.proofs.Laws.Links.{target_nowhere, target_alone}
use Rattle.site.proofs.view.Site.targets.Goals as goal

pub returns-in-Some : goal.returns-in-Some
returns-in-Some c = λ t h.
    rw c.in-Functional.is
    (c.single.ensures t h
    ∙ ap (same t) c.from.ensures
    ∙ sym (target_alone c.args.self.now (general_links + c.in-Functional.f.number) c.args.s c.ranges.s.fits (omega arith) (omega (arith, c.in-Functional.f.within)) c.in-Some.t c.in-Some.ensures.byte c.in-Some.ensures.some t h))

pub returns-in-None : goal.returns-in-None
returns-in-None c = λ t h.
    rw c.in-Functional.is
    (c.empty.ensures t h
    ∙ sym (target_nowhere c.args.self.now (general_links + c.in-Functional.f.number) c.args.s c.ranges.s.fits (omega arith) (omega (arith, c.in-Functional.f.within)) 0 c.in-None.ensures.byte (λ i. 0) t h))
