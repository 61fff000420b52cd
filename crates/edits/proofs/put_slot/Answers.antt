-- A slot of the present ones.
use Rattle.std.proofs.Common.{◌∙◌, ap}
use Rattle.bitset.specs.Set.{inserted}
use Rattle.limits.specs.Limits.{slots}
use Rattle.site_changes.proofs.Laws.Bytes.{slot_put}
use Rattle.edits.proofs.put_slot.Goals as goal

pub returns : goal.returns
unfolding slots
returns c = slot_put c.args.site.now c.told-site c.args.s c.ranges.s.fits (c.insert.ensures ∙ ap (inserted c.args.site.now) c.from.ensures)
