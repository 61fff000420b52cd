-- What is listed, or zeros.
use Rattle.std.proofs.Common.{rules}
use Rattle.verdict.proofs.Laws.{is_refused, is_answered}
use Rattle.list_entry.proofs.Laws.Listing.{answered_listed, answered_refused}
use Rattle.list_entry.proofs.list.Goals as goal

pub returns-then-is_err : goal.returns-then-is_err
returns-then-is_err c =
    answered_refused c.try_list-answer.ensures (is_refused _ c.if-is_err.ensures.value).1 (search rules) (search rules)

pub returns-else-is_err : goal.returns-else-is_err
returns-else-is_err c = answered_listed c.try_list-answer.ensures (is_answered _ c.if-is_err.ensures.value).1
