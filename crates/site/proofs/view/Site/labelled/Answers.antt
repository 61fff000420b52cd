use Rattle.std.proofs.Common.{◌∙◌, sym, ap, ◌+◌, ◌*◌, ◌≡◌, arith}
use Rattle.bitset.specs.Set.{has}
use Rattle.limits.specs.Limits.{slots}
use Rattle.site.specs.Layout.{label_at}
use Rattle.site.proofs.Laws.Read.{marked_is}
use Rattle.site.proofs.view.Site.labelled.Goals as goal

pub returns : goal.returns
unfolding slots
returns c = λ s h.
    let at : (32 + 32 * c.index.result) * 8 + s ≡ label_at c.args.p.number * 8 + s = omega (arith, c.index.ensures) in
    c.set_at.ensures.set s h ∙ ap (has c.args.self.now) at ∙ sym (marked_is c.args.self.now c.args.p.number s c.args.p.within h)
