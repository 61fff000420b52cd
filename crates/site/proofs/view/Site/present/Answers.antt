use Rattle.std.proofs.Common.{◌∙◌, sym, ap₂, List, ℕ}
use Rattle.bitset.specs.Set.{has}
use Rattle.limits.specs.Limits.{slots}
use Rattle.site.proofs.Laws.Read.{present_is}
use Rattle.site.proofs.view.Site.present.Goals as goal

pub returns : goal.returns
unfolding slots
returns c =
    c.member.ensures ∙ ap₂ (λ (S : List ℕ) (s : ℕ). has S s) c.self.view_is c.from.ensures ∙ sym (present_is c.args.self.now c.args.s c.ranges.s.fits)
