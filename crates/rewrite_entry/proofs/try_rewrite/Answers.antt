-- What the items that are not met say of the inputs; then item 14.
use Rattle.std.proofs.Common.{sym}
use Rattle.refusals.proofs.Laws.Items.{buffer_out}
use Rattle.rewriting.proofs.Laws.Passes.{made_as}
use Rattle.rewrite_entry.proofs.Laws.Rewriting.{accepted_table, accepted_legal}
use Rattle.rewrite_entry.proofs.try_rewrite.Goals as goal

pub rewrite_sheet-requires-clause-in_bounds : goal.rewrite_sheet-requires-clause-in_bounds
rewrite_sheet-requires-clause-in_bounds c = let t = accepted_table _ (sym c.in_ok-check-2.ensures.verdict) in
    (t.0, t.1, buffer_out _ _ (sym c.in_ok-check_length.ensures))

pub rewrite_sheet-requires-clause-table_value : goal.rewrite_sheet-requires-clause-table_value
rewrite_sheet-requires-clause-table_value c =
    ((accepted_table _ (sym c.in_ok-check-2.ensures.verdict)).2, accepted_legal _ _ (sym c.in_ok-check-3.ensures))

pub returns-clause-made : goal.returns-clause-made
returns-clause-made c = made_as _ c.rewrite_sheet.ensures
