-- The three parts of the line stand one behind another.
use Rattle.job_text.proofs.Laws.PutLines.{count-put}
use Rattle.job_text.proofs.put_count.Goals as goal

pub returns-clause-puts : goal.returns-clause-puts
returns-clause-puts c = (count-put _ c.put-a.ensures (c.put_number-b.ensures.puts, c.put_number-b.ensures.upper_bound) c.put.ensures).0
