-- The site that is written, or zeros.
use Rattle.std.proofs.Common.{rules}
use Rattle.verdict.proofs.Laws.{is_refused, is_accepted}
use Rattle.apply_entry.proofs.Laws.Applying.{answered_applied, answered_refused}
use Rattle.apply_entry.proofs.apply.Goals as goal

pub returns-then-is_err : goal.returns-then-is_err
returns-then-is_err c = answered_refused c.try_apply-answer.ensures.verdict (is_refused _ c.if-is_err.ensures.value).1 (search rules)

pub returns-else-is_err : goal.returns-else-is_err
returns-else-is_err c = answered_applied c.try_apply-answer.ensures.verdict (is_accepted _ c.if-is_err.ensures.value) c.try_apply-answer.ensures.written
