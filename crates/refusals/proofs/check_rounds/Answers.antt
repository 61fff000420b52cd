-- By the test of item 15.
use Rattle.std.proofs.Common.{sym, arith}
use Rattle.refusals.proofs.Laws.Items.{rounds_in, rounds-not}
use Rattle.refusals.proofs.check_rounds.Goals as goal

pub returns-then-rounds-limit : goal.returns-then-rounds-limit
returns-then-rounds-limit c = sym (rounds_in (omega arith))

pub returns-else-rounds-limit : goal.returns-else-rounds-limit
returns-else-rounds-limit c = sym (rounds-not (omega arith))
