-- By the test of item 16.
use Rattle.std.proofs.Common.{sym, arith}
use Rattle.refusals.proofs.Laws.Items.{limit_in, limit_not}
use Rattle.refusals.proofs.check_limit.Goals as goal

pub returns-then-limit-le-HIGHEST_LIMIT : goal.returns-then-limit-le-HIGHEST_LIMIT
returns-then-limit-le-HIGHEST_LIMIT c = sym (limit_in (omega arith))

pub returns-else-limit-le-HIGHEST_LIMIT : goal.returns-else-limit-le-HIGHEST_LIMIT
returns-else-limit-le-HIGHEST_LIMIT c = sym (limit_not (omega arith))
