-- What the items that are not met say of the inputs; then item 14.
use Rattle.std.proofs.Common.{sym}
use Rattle.refusals.proofs.Laws.Items.{buffer_out}
use Rattle.rewriting.proofs.Laws.Passes.{made_as}
use Rattle.rewrite_entry.proofs.Laws.Rewriting.{accepted_legal}
use Rattle.rewrite_entry.proofs.try_through.Goals as goal

pub through_sheet-requires : goal.through_sheet-requires
through_sheet-requires c = (buffer_out _ _ (sym c.in_ok-check_length.ensures), accepted_legal _ _ (sym c.in_ok-check-2.ensures))

pub returns-clause-made : goal.returns-clause-made
returns-clause-made c = made_as _ c.through_sheet.ensures
