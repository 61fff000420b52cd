use Rattle.std.proofs.Common.{◌∙◌, sym, ap}
use Rattle.site.specs.Site.{site_of}
use Rattle.site.proofs.Laws.Read.{place_is}
use Rattle.site.proofs.view.Site.place.Goals as goal

pub returns : goal.returns
returns c =
    c.byte.ensures
    ∙ sym (place_is c.args.self.now c.index.result (rw c.index.ensures c.args.n.within))
    ∙ ap (site_of c.args.self.now).place c.index.ensures
