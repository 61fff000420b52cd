use Rattle.std.proofs.Common.{◌∙◌, sym, ap, ◌&&◌, ◌+◌, Bool, arith}
use Rattle.limits.specs.Limits.{slots, general_links}
use Rattle.finite.proofs.Laws.Below.{any_cong}
use Rattle.bitset.specs.Set.{has, set_slots}
use Rattle.site.proofs.Laws.Links.{target_none, target-meets}
use Rattle.site.proofs.view.Site.leads.Goals as goal

pub returns-in-General : goal.returns-in-General
unfolding slots
returns-in-General c =
    rw c.in-General.is (c.meets.ensures ∙ any_cong set_slots _ _ (λ t h. ap (λ (b : Bool). b && has c.args.set.now t) (c.row.ensures t h)))

pub returns-in-Some : goal.returns-in-Some
returns-in-Some c =
    rw c.in-Functional.is
    (c.contains.ensures
    ∙ ap (has c.args.set.now) c.from.ensures
    ∙ sym (target-meets c.args.self.now (general_links + c.in-Functional.f.number) c.args.s c.ranges.s.fits (omega arith) (omega (arith, c.in-Functional.f.within)) c.in-Some.t c.in-Some.ensures.byte c.args.set.now (omega arith) c.in-Some.ensures.some))

pub returns-in-None : goal.returns-in-None
returns-in-None c =
    rw c.in-Functional.is
    (sym (target_none c.args.self.now (general_links + c.in-Functional.f.number) c.args.s c.ranges.s.fits (omega arith) (omega (arith, c.in-Functional.f.within)) 0 c.in-None.ensures.byte c.args.set.now (omega arith) (λ i. 0)))
