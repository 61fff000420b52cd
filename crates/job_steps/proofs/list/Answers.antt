-- The masks of an accepted table are those of its free variables.
use Rattle.std.proofs.Common.{◌∙◌, arith}
use Rattle.even_rule.proofs.Laws.Judged.{checked_rows}
use Rattle.job_steps.proofs.list.Goals as goal

pub list-requires-clause-table_value : goal.list-requires-clause-table_value
list-requires-clause-table_value c = c.requires.part

pub list-requires-clause-free_len : goal.list-requires-clause-free_len
list-requires-clause-free_len c = (omega arith, checked_rows c.check.ensures (c.check.ensures.verdict ∙ c.requires.part))

pub list-requires-clause-limit_le_highest_limit : goal.list-requires-clause-limit_le_highest_limit
list-requires-clause-limit_le_highest_limit c = c.requires.limit_le_highest_limit

pub list-requires-clause-set_len : goal.list-requires-clause-set_len
list-requires-clause-set_len c = c.requires.today_len
