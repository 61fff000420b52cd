-- The items in order: the site, the condition.
use Rattle.std.proofs.Common.{sym}
use Rattle.even_rule.proofs.Laws.Judged.{judged_condition, judged_next}
use Rattle.list_entry.proofs.judge_pair.Goals as goal

pub returns-clause-judged : goal.returns-clause-judged
returns-clause-judged c = judged_next (sym c.in_ok-site.ensures.verdict) (judged_condition c.in_ok-check.ensures)
