-- The links below the loop's do not touch the slot.
use Rattle.std.proofs.Common.{◌∙◌, ap, arith}
use Rattle.site.specs.Site.{site_of}
use Rattle.site_changes.specs.Change.{without_links_of}
use Rattle.site_changes.proofs.Laws.Loops.{links_start, links_more, links_end}
use Rattle.link_edits.proofs.take_links.Goals as goal

pub loop-m-init : goal.loop-m-init
loop-m-init c = (links_start (site_of c.args.site.now) c.args.s, omega arith)

pub loop-m-preserved : goal.loop-m-preserved
loop-m-preserved c =
    let step = c.take_row_and_column.ensures ∙ ap (λ m. without_links_of (site_of c.loop-m.site) m c.args.s) c.at.ensures in
    (links_more (site_of c.args.site.now) c.args.s c.loop-m.m c.loop-m.invariant.0 step, omega arith)

pub returns : goal.returns
returns c = c.loop-m.invariant.0 ∙ links_end c.args.site.now c.args.s c.loop-m.m (omega arith)
