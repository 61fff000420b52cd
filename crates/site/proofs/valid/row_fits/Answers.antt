-- By cases: s is in `onsite`, or it is not and its row has to be empty.
use Rattle.std.proofs.Common.{sym, ◌∙◌}
use Rattle.site.proofs.Laws.Fits.{row-none}
use Rattle.site.proofs.valid.row_fits.Goals as goal

pub returns : goal.returns
returns c = c.is_empty.ensures ∙ row-none c.args.site.now c.args.onsite.now _ c.args.b c.args.s c.set_at.ensures.set (sym c.contains.ensures ∙ c.if-contains.false)
