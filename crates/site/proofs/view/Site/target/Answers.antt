use Rattle.std.proofs.Common.{◌∙◌, sym}
use Rattle.site.proofs.Laws.Target.{target_shown}
use Rattle.site.proofs.view.Site.target.Goals as goal

pub returns-in-0-clause-slot : goal.returns-in-0-clause-slot
returns-in-0-clause-slot c =
    sym c.in-0.is ∙ target_shown c.args.self.now c.args.f.number c.index.result c.args.s c.from.result _ c.index.ensures (rw c.index.ensures c.args.f.within) c.from.ensures c.ranges.s.fits c.byte.type_inv c.byte.ensures

pub returns-in_default-clause-slot : goal.returns-in_default-clause-slot
returns-in_default-clause-slot c =
    target_shown c.args.self.now c.args.f.number c.index.result c.args.s c.from.result _ c.index.ensures (rw c.index.ensures c.args.f.within) c.from.ensures c.ranges.s.fits c.byte.type_inv c.byte.ensures
