-- The verdict `first` is passed on; then the pieces are judged and changed, both lists are made, and the classes numbered.
use Rattle.std.proofs.Common.{arith, sym, true≢false, length, ◌≡◌}
use Rattle.verdict.proofs.Laws.{passed_on}
use Rattle.limits.specs.Limits.{table_nodes}
use Rattle.job_run.proofs.Laws.Job.{first_refused, first_passed, tried_refused, judge_refused, change_refused, made, over_after, over_today, done}
use Rattle.job_run.proofs.try_run.Goals as goal

pub returns-in_err-first : goal.returns-in_err-first
returns-in_err-first c = rw (passed_on c.from_residual.ensures.1) (first_refused c.in_err-first.was)

pub returns-in_err-judge : goal.returns-in_err-judge
returns-in_err-judge c =
    rw (passed_on c.from_residual-in_err-judge.ensures.1)
    (first_passed c.in_ok-first.was (tried_refused (judge_refused _ _ _ _ c.in_err-judge.ensures)))

pub returns-in_err-nodes : goal.returns-in_err-nodes
returns-in_err-nodes c =
    rw (passed_on c.from_residual-in_err-nodes.ensures.1)
    (first_passed c.in_ok-first.was (tried_refused (change_refused c.in_ok-judge.ensures c.in_err-nodes.ensures)))

pub returns-in_err-check_rounds : goal.returns-in_err-check_rounds
returns-in_err-check_rounds c =
    let size : length c.judge.new.free ≡ table_nodes = omega arith in
    let m = made c.in_ok-judge.ensures size c.in_ok-nodes.ensures in
    rw (passed_on c.from_residual-in_err-check_rounds.ensures.1)
    (first_passed c.in_ok-first.was (over_after m (rw c.in-Some.ensures.some at c.list-listed_after.ensures.limited) c.in_err-check_rounds.ensures))

pub list_first-listed_today-requires-clause-part : goal.list_first-listed_today-requires-clause-part
list_first-listed_today-requires-clause-part c =
    let size : length c.judge.new.free ≡ table_nodes = omega arith in
    let m = made c.in_ok-judge.ensures size c.in_ok-nodes.ensures in
    m.part_accepted

pub returns-in_err-check_rounds-2 : goal.returns-in_err-check_rounds-2
returns-in_err-check_rounds-2 c =
    let size : length c.judge.new.free ≡ table_nodes = omega arith in
    let m = made c.in_ok-judge.ensures size c.in_ok-nodes.ensures in
    rw (passed_on c.from_residual-in_err-check_rounds-2.ensures.1)
    (first_passed c.in_ok-first.was
    (over_today m (rw c.in-Some.ensures.some at c.list-listed_after.ensures.limited) c.in_ok-check_rounds.ensures
    (rw c.in-Some-new.ensures.some at c.list_first-listed_today.ensures.limited) c.in_err-check_rounds-2.ensures))

pub returns : goal.returns
returns c =
    let size : length c.judge.new.free ≡ table_nodes = omega arith in
    let m = made c.in_ok-judge.ensures size c.in_ok-nodes.ensures in
    let sized = c.requires.sized c.in_ok-first.was in
    first_passed c.in_ok-first.was
    (done m (rw c.in-Some.ensures.some at c.list-listed_after.ensures.limited) c.in_ok-check_rounds.ensures
    (rw c.in-Some-new.ensures.some at c.list_first-listed_today.ensures.limited) c.in_ok-check_rounds-2.ensures
    c.list_first-listed_today.ensures.work_after sized.work_size (rw c.in-Some.ensures.some at c.number.ensures.classes) c.number.ensures.value)

pub unreachable-requires-in_default-new : goal.unreachable-requires-in_default-new
unreachable-requires-in_default-new c =
    let size : length c.judge.new.free ≡ table_nodes = omega arith in
    let m = made c.in_ok-judge.ensures size c.in_ok-nodes.ensures in
    true≢false (sym (c.in_default-new.ensures.sized.1 m.site_size))

pub list_first-listed_today-requires-clause-room : goal.list_first-listed_today-requires-clause-room
list_first-listed_today-requires-clause-room c =
    let size : length c.judge.new.free ≡ table_nodes = omega arith in
    let m = made c.in_ok-judge.ensures size c.in_ok-nodes.ensures in
    m.room
