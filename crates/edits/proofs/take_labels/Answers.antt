-- The labels below the loop's are not on the slot.
use Rattle.std.proofs.Common.{◌∙◌, ap, arith}
use Rattle.site.specs.Site.{site_of}
use Rattle.site_changes.specs.Change.{without_label}
use Rattle.site_changes.proofs.Laws.Loops.{labels_start, labels_more, labels_end}
use Rattle.edits.proofs.take_labels.Goals as goal

pub loop-p-init : goal.loop-p-init
loop-p-init c = (labels_start (site_of c.args.site.now) c.args.s, omega arith)

pub loop-p-preserved : goal.loop-p-preserved
loop-p-preserved c =
    let step = c.take_label.ensures ∙ ap (λ p. without_label (site_of c.loop-p.site) p c.args.s) c.at.ensures in
    (labels_more (site_of c.args.site.now) c.args.s c.loop-p.p c.loop-p.invariant.0 step, omega arith)

pub returns : goal.returns
returns c = c.loop-p.invariant.0 ∙ labels_end c.args.site.now c.args.s c.loop-p.p (omega arith)
