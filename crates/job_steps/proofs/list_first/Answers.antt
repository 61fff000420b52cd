-- The first n nodes are a part of the table.
use Rattle.job_steps.proofs.list_first.Goals as goal

pub list-requires-clause-part : goal.list-requires-clause-part
list-requires-clause-part c = c.requires.part

pub list-requires-clause-today_len : goal.list-requires-clause-today_len
list-requires-clause-today_len c = c.requires.today_len
