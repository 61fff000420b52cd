-- The digits that `io::decimal` gives are written.
use Rattle.std.proofs.Common.{arith}
use Rattle.job_text.proofs.Laws.Decimal.{few}
use Rattle.job_text.proofs.Laws.PutLines.{number_put}
use Rattle.job_text.proofs.put_number.Goals as goal

pub returns-clause-puts : goal.returns-clause-puts
returns-clause-puts c =
    let digits = c.decimal-k.ensures in
    (number_put _ _ _ digits.len (few _ _ digits.len (omega arith)) digits.digits c.put.ensures).0
