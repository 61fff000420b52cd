-- The names below the loop's are not at the slot.
use Rattle.std.proofs.Common.{◌∙◌, ap, arith}
use Rattle.site.specs.Site.{site_of}
use Rattle.site_changes.specs.Change.{without_name}
use Rattle.site_changes.proofs.Laws.Loops.{names_start, names_more, names_end}
use Rattle.edits.proofs.take_names.Goals as goal

pub loop-n-init : goal.loop-n-init
loop-n-init c = (names_start (site_of c.args.site.now) c.args.s, omega arith)

pub loop-n-preserved : goal.loop-n-preserved
loop-n-preserved c =
    let step = c.take_name.ensures ∙ ap (λ n. without_name (site_of c.loop-n.site) n c.args.s) c.at.ensures in
    (names_more (site_of c.args.site.now) c.args.s c.loop-n.n c.loop-n.invariant.0 step, omega arith)

pub returns : goal.returns
returns c = c.loop-n.invariant.0 ∙ names_end c.args.site.now c.args.s c.loop-n.n (omega arith)
