use Rattle.std.proofs.Common.{◌∙◌, sym, ap₂, ◌+◌, ◌*◌, ◌≡◌, List, ℕ, arith}
use Rattle.bitset.specs.Set.{has}
use Rattle.limits.specs.Limits.{slots}
use Rattle.site.specs.Layout.{label_at}
use Rattle.site.proofs.Laws.Read.{marked_is}
use Rattle.site.proofs.view.Site.has_label.Goals as goal

pub returns : goal.returns
unfolding slots
returns c =
    let at : (32 + 32 * c.index.result) * 8 + c.from.result ≡ label_at c.args.p.number * 8 + c.args.s = omega (arith, c.index.ensures, c.from.ensures) in
    c.member.ensures
    ∙ ap₂ (λ (S : List ℕ) (s : ℕ). has S s) c.self.view_is at
    ∙ sym (marked_is c.args.self.now c.args.p.number c.args.s c.args.p.within c.ranges.s.fits)
