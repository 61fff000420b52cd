-- A functional link leads to its target, or nowhere.
use Rattle.std.proofs.Common.{◌∙◌, sym, ap, ◌||◌, ◌+◌, arith}
use Rattle.std.proofs.Math.Bool.{or-false}
use Rattle.bitset.specs.Set.{has}
use Rattle.finite.specs.Tests.{same}
use Rattle.limits.specs.Limits.{general_links}
use Rattle.site.proofs.Laws.Links.{target_nowhere, target_alone}
use Rattle.modal.proofs.add_targets.Goals as goal

pub returns-in-Some : goal.returns-in-Some
returns-in-Some c = λ s h.
    rw c.in-Functional.is
    (c.insert.ensures s h
    ∙ ap (◌||◌ (has c.args.found.now s))
    (ap (same s) c.from.ensures
    ∙ sym (target_alone c.args.site.now (general_links + c.in-Functional.f.number) c.args.t c.ranges.t.fits (omega arith) (omega (arith, c.in-Functional.f.within)) c.in-Some.s c.in-Some.ensures.byte c.in-Some.ensures.some s h)))

pub returns-in-None : goal.returns-in-None
returns-in-None c = λ s h.
    rw c.in-Functional.is
    (sym
    (ap (◌||◌ (has c.args.found.now s))
    (target_nowhere c.args.site.now (general_links + c.in-Functional.f.number) c.args.t c.ranges.t.fits (omega arith) (omega (arith, c.in-Functional.f.within)) 0 c.in-None.ensures.byte (λ i. 0) s h)
    ∙ or-false (has c.args.found.now s)))
