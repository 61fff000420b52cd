-- The parts of the line stand one behind another.
use Rattle.std.proofs.Common.{arith}
use Rattle.job_text.proofs.Laws.PutLines.{refused_put}
use Rattle.job_text.proofs.refused.Goals as goal

pub returns : goal.returns
returns c =
    let word = c.put-a.ensures in
    let number = c.put_number-b.ensures in
    let line = c.put_count.ensures in (
      omega (arith, word.ends, number.upper_bound, line.upper_bound),
      rw (← c.number.ensures, ← c.fault.ensures) (refused_put _ _ word number.puts line.puts),
    )
