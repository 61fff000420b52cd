-- The five parts of the line stand one behind another.
use Rattle.std.proofs.Common.{arith}
use Rattle.job_text.proofs.Laws.PutHex.{length-hexadecimal}
use Rattle.job_text.proofs.Laws.PutLines.{list_put}
use Rattle.job_text.proofs.put_list.Goals as goal

pub put-requires : goal.put-requires
put-requires c = omega (arith, length-hexadecimal c.args.set.now)

pub returns-clause-puts : goal.returns-clause-puts
returns-clause-puts c =
    let number = c.put_number-b.ensures in
    (list_put _ _ c.requires.0 c.put-a.ensures (number.puts, number.upper_bound) c.put-c.ensures c.put_bytes-d.ensures c.put.ensures).0

pub returns-clause-upper_bound : goal.returns-clause-upper_bound
returns-clause-upper_bound c =
    let number = c.put_number-b.ensures in
    (list_put _ _ c.requires.0 c.put-a.ensures (number.puts, number.upper_bound) c.put-c.ensures c.put_bytes-d.ensures c.put.ensures).1
