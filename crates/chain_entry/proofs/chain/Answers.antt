-- What is given, or zeros.
use Rattle.std.proofs.Common.{rules}
use Rattle.verdict.proofs.Laws.{is_refused, is_answered}
use Rattle.chain_entry.proofs.Laws.Chaining.{answered_searched, answered_refused}
use Rattle.chain_entry.proofs.chain.Goals as goal

pub returns-then-is_err : goal.returns-then-is_err
returns-then-is_err c = answered_refused c.try_chain-answer.ensures.verdict (is_refused _ c.if-is_err.ensures.value).1 (search rules) (search rules) (search rules)

pub returns-else-is_err : goal.returns-else-is_err
returns-else-is_err c =
    let answer = c.try_chain-answer.ensures in
    answered_searched answer.verdict (is_answered _ c.if-is_err.ensures.value).1 answer.searched answer.work_after
