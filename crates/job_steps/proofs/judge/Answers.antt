-- The items in order: the site, the condition, the sheet.
use Rattle.std.proofs.Common.{sym}
use Rattle.verdict.proofs.Laws.{passed_on}
use Rattle.even_rule.proofs.Laws.Judged.{checked_rows, judged_refused, judged_next, judged_other}
use Rattle.job_steps.proofs.judge.Goals as goal

pub returns-in_err-check : goal.returns-in_err-check
returns-in_err-check c = rw (passed_on c.from_residual.ensures.1) (judged_refused _ (sym c.in_err-check.ensures))

pub returns-in_err-check-2 : goal.returns-in_err-check-2
returns-in_err-check-2 c =
    rw (passed_on c.from_residual-in_err-check-2.ensures.1)
    (judged_next (sym c.in_ok-check.ensures) (judged_refused _ (sym c.in_err-check-2.ensures.verdict)))

pub returns : goal.returns
returns c =
    judged_next (sym c.in_ok-check.ensures)
    (judged_other (checked_rows c.check-2.ensures c.in_ok-check-2.was) (sym c.in_ok-check-2.ensures.verdict) c.check-3.ensures)
