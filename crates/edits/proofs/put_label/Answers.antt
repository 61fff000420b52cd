-- A slot of a label's set.
use Rattle.std.proofs.Common.{◌∙◌, ap}
use Rattle.bitset.specs.Set.{inserted}
use Rattle.limits.specs.Limits.{slots}
use Rattle.site_changes.proofs.Laws.Bytes.{label_put}
use Rattle.edits.proofs.put_label.Goals as goal

pub returns : goal.returns
unfolding slots
returns c = label_put c.args.site.now c.told-site c.args.p.number c.args.s c.args.p.within c.ranges.s.fits (c.insert.ensures ∙ ap (inserted c.args.site.now) c.label_bit.ensures)
