-- The class numbers, or zeros.
use Rattle.std.proofs.Common.{rules}
use Rattle.verdict.proofs.Laws.{is_refused, is_answered}
use Rattle.classes_entry.proofs.Laws.Classing.{answered_numbered, answered_refused}
use Rattle.classes_entry.proofs.classes.Goals as goal

pub returns-then-is_err : goal.returns-then-is_err
returns-then-is_err c = answered_refused c.try_classes-answer.ensures.verdict (is_refused _ c.if-is_err.ensures.value).1 (search rules)

pub returns-else-is_err : goal.returns-else-is_err
returns-else-is_err c = answered_numbered c.try_classes-answer.ensures.verdict (is_answered _ c.if-is_err.ensures.value).1 c.try_classes-answer.ensures.numbered
