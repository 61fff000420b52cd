-- The four lines stand one behind another.
use Rattle.std.proofs.Common.{arith}
use Rattle.job_text.proofs.Laws.PutLines.{done_put}
use Rattle.job_text.proofs.done.Goals as goal

pub returns : goal.returns
returns c =
    let one = c.put_list-one.ensures in
    let two = c.put_list-two.ensures in
    let three = c.put_count-three.ensures in
    let four = c.put_count.ensures in
    (omega (arith, one.upper_bound, two.upper_bound, three.upper_bound, four.upper_bound), done_put _ _ _ _ _ _ one.puts two.puts three.puts four.puts)
