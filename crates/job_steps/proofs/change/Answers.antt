-- Item 13 by applying, then item 14 by rewriting.
use Rattle.std.proofs.Common.{arith}
use Rattle.verdict.proofs.Laws.{passed_on}
use Rattle.condition.proofs.Laws.Verdict.{accepted_sound}
use Rattle.job_steps.proofs.Laws.Steps.{changed_then, changed_stuck}
use Rattle.sheet.proofs.Laws.Accepted.{accepted_sheet}
use Rattle.job_steps.proofs.change.Goals as goal

pub returns-in_err-apply : goal.returns-in_err-apply
returns-in_err-apply c = rw (passed_on c.from_residual.ensures.1) (changed_stuck c.in_err-apply.ensures)

pub rewrite_sheet-requires-clause-in_bounds : goal.rewrite_sheet-requires-clause-in_bounds
rewrite_sheet-requires-clause-in_bounds c = let s = accepted_sound _ c.requires.site_value.1.0 in
    (s.some, s.few, c.requires.changed_len.1)

pub rewrite_sheet-requires-clause-table_value : goal.rewrite_sheet-requires-clause-table_value
rewrite_sheet-requires-clause-table_value c = let s = accepted_sound _ c.requires.site_value.1.0 in
    (s.fits, (accepted_sheet _ _ c.requires.site_value.1.1).are_legal)

pub returns : goal.returns
returns c = changed_then c.in_ok-apply.ensures (λ k. omega (arith, c.type_inv.changed k)) c.rewrite_sheet.ensures
