-- Items 1, 16, 2 and 18 are judged, the pieces are taken, and the job runs on them.
use Rattle.job_entry.proofs.Laws.Job.{passed, answered_ran}
use Rattle.job_entry.proofs.run.Goals as goal

pub run-requires-clause-limit : goal.run-requires-clause-limit
run-requires-clause-limit c = λ e. (passed c.read-cuts.ensures c.check-first.ensures e).0

pub run-requires-clause-sized : goal.run-requires-clause-sized
run-requires-clause-sized c = λ e. (passed c.read-cuts.ensures c.check-first.ensures e).1

pub returns : goal.returns
returns c = answered_ran c.read-cuts.ensures c.check-first.ensures c.site.ensures c.condition.ensures c.sheet.ensures c.run.ensures
