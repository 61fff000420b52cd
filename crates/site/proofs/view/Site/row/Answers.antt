use Rattle.std.proofs.Common.{◌∙◌, sym, ap, ◌+◌, ◌*◌, ◌≡◌, arith}
use Rattle.bitset.specs.Set.{has}
use Rattle.limits.specs.Limits.{slots}
use Rattle.site.specs.Layout.{row_at}
use Rattle.site.proofs.Laws.Read.{row_is}
use Rattle.site.proofs.view.Site.row.Goals as goal

pub returns : goal.returns
unfolding slots
returns c = λ t h.
    let at : (1616 + 8192 * c.index.result + 32 * c.from.result) * 8 + t ≡ row_at c.args.m.number c.args.s * 8 + t = omega (arith, c.index.ensures, c.from.ensures) in
    c.set_at.ensures.set t h
    ∙ ap (has c.args.self.now) at
    ∙ sym (row_is c.args.self.now c.args.m.number c.args.s t c.args.m.within c.ranges.s.fits h)
