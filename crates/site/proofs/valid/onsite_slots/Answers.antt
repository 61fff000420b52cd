-- The present slots, and slot 0 taken out.
use Rattle.site.proofs.Laws.Fits.{onsite_are}
use Rattle.site.proofs.valid.onsite_slots.Goals as goal

pub returns : goal.returns
returns c = onsite_are c.args.site.now _ _ c.present_slots-onsite.ensures c.remove.ensures
