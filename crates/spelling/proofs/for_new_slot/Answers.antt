-- The spelling for AS, kind by kind.
use Rattle.std.proofs.Common.{arith}
use Rattle.spelling.proofs.Laws.Spelling.{as_here, as_other}
use Rattle.spelling.proofs.for_new_slot.Goals as goal

pub returns-in-1 : goal.returns-in-1
returns-in-1 c = as_here c.args.n c.args.slot c.args.kind c.args.param c.with.result c.in-1.is c.with.ensures

pub returns-in_default : goal.returns-in_default
returns-in_default c =
    rw c.then_some.ensures
    (as_other c.args.n c.args.slot c.args.kind c.args.param c.is_leaf.result c.with-in_default.result (λ e. omega arith) c.is_leaf.ensures c.with-in_default.ensures)
