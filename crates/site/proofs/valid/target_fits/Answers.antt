-- No target, or s and t are in `onsite`.
use Rattle.std.proofs.Common.{sym, ◌∙◌, ap, ◌&&◌, Bool}
use Rattle.bitset.specs.Set.{has}
use Rattle.site.proofs.Laws.Fits.{target_some, target_no}
use Rattle.site.proofs.valid.target_fits.Goals as goal

pub returns-then-contains : goal.returns-then-contains
returns-then-contains c =
    c.contains-then-contains.ensures
    ∙ ap (has c.args.onsite.now) c.from-then-contains.ensures
    ∙ ap (λ (b : Bool). b && has c.args.onsite.now c.in-Some.t) (sym (ap (has c.args.onsite.now) (sym c.from.ensures) ∙ sym c.contains.ensures ∙ c.if-contains.true))
    ∙ target_some c.args.onsite.now c.args.s c.in-Some.t _ c.in-Some.ensures.byte c.in-Some.ensures.some

pub returns-else-contains : goal.returns-else-contains
returns-else-contains c =
    c.if-contains.false
    ∙ ap (λ (b : Bool). b && has c.args.onsite.now c.in-Some.t) (sym (ap (has c.args.onsite.now) (sym c.from.ensures) ∙ sym c.contains.ensures ∙ c.if-contains.false))
    ∙ target_some c.args.onsite.now c.args.s c.in-Some.t _ c.in-Some.ensures.byte c.in-Some.ensures.some

pub returns-in-None : goal.returns-in-None
returns-in-None c = target_no c.args.onsite.now c.args.s _ c.in-None.ensures.byte
