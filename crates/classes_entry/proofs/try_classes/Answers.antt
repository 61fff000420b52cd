-- What the items that are not met say of the inputs.
use Rattle.std.proofs.Common.{sym}
use Rattle.refusals.proofs.Laws.Items.{buffer_out}
use Rattle.classes_entry.proofs.try_classes.Goals as goal

pub number-requires : goal.number-requires
number-requires c = buffer_out _ _ (sym c.in_ok-check_length.ensures)
