-- The table that is made, or zeros.
use Rattle.std.proofs.Common.{rules}
use Rattle.verdict.proofs.Laws.{is_refused, is_answered}
use Rattle.rewrite_entry.proofs.Laws.Rewriting.{answered_made, answered_refused}
use Rattle.rewrite_entry.proofs.through.Goals as goal

pub returns-then-is_err : goal.returns-then-is_err
returns-then-is_err c = answered_refused c.try_through-answer.ensures.verdict (is_refused _ c.if-is_err.ensures.value).1 (search rules)

pub returns-else-is_err : goal.returns-else-is_err
returns-else-is_err c = answered_made c.try_through-answer.ensures.verdict (is_answered _ c.if-is_err.ensures.value).1 c.try_through-answer.ensures.made
