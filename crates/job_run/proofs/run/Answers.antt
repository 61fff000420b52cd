-- A refusal leaves zeros.
use Rattle.std.proofs.Common.{rules}
use Rattle.verdict.proofs.Laws.{is_refused}
use Rattle.job_run.proofs.Laws.Job.{ran_refused, zeros_of}
use Rattle.job_run.proofs.run.Goals as goal

pub returns-then-is_err : goal.returns-then-is_err
returns-then-is_err c =
    let l = c.try_run-answer.auto in
    ran_refused c.try_run-answer.ensures (is_refused _ c.if-is_err.ensures.value).1
    (zeros_of (l.changed, l.table, l.after, l.today, l.classes, l.work) c.zero.ensures)
