use Rattle.std.proofs.Common.{◌∙◌, sym, ap, zero-add}
use Rattle.bitset.specs.Set.{has}
use Rattle.limits.specs.Limits.{slots}
use Rattle.site.proofs.Laws.Read.{present_is}
use Rattle.site.proofs.view.Site.present_slots.Goals as goal

pub returns : goal.returns
unfolding slots
returns c = λ s h. c.set_at.ensures.set s h ∙ ap (has c.args.self.now) (zero-add s) ∙ sym (present_is c.args.self.now s h)
