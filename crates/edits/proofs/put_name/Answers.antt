-- A name's byte.
use Rattle.std.proofs.Common.{◌∙◌, ap}
use Rattle.site.specs.Site.{site_of}
use Rattle.site_changes.specs.Change.{with_name}
use Rattle.site_changes.proofs.Laws.Bytes.{name_put}
use Rattle.edits.proofs.put_name.Goals as goal

pub returns : goal.returns
returns c = name_put c.args.site.now c.index.result c.args.s c.told-site (rw c.index.ensures c.args.n.within) ∙ ap (λ n. with_name (site_of c.args.site.now) n c.args.s) c.index.ensures
