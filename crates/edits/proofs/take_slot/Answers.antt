-- A slot of the present ones.
use Rattle.std.proofs.Common.{◌∙◌, ap}
use Rattle.bitset.specs.Set.{removed}
use Rattle.limits.specs.Limits.{slots}
use Rattle.site_changes.proofs.Laws.Bytes.{slot_taken}
use Rattle.edits.proofs.take_slot.Goals as goal

pub returns : goal.returns
unfolding slots
returns c = slot_taken c.args.site.now c.told-site c.args.s c.ranges.s.fits (c.remove.ensures ∙ ap (removed c.args.site.now) c.from.ensures)
