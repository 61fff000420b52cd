-- The spelling for DS, kind by kind.
use Rattle.std.proofs.Common.{arith}
use Rattle.spelling.proofs.Laws.Spelling.{ds_here, ds_label, ds_name, ds_diamond, ds_box, ds_other}
use Rattle.spelling.proofs.for_slot_gone.Goals as goal

pub returns-in-1 : goal.returns-in-1
returns-in-1 c = ds_here c.args.n c.args.kind c.args.param c.with.result c.in-1.is c.with.ensures

pub returns-in-2 : goal.returns-in-2
returns-in-2 c = ds_label c.args.n c.args.kind c.args.param c.with-in-2.result c.in-2.is c.with-in-2.ensures

pub returns-in-3 : goal.returns-in-3
returns-in-3 c = rw c.then_some.ensures (ds_name c.args.n c.args.kind c.args.param c.with-in-3.result c.in-3.is c.with-in-3.ensures)

pub returns-in-8 : goal.returns-in-8
returns-in-8 c = rw c.then_some-in-8.ensures (ds_diamond c.args.n c.args.kind c.args.param c.with-in-8.result c.in-8.is c.with-in-8.ensures)

pub returns-in-9 : goal.returns-in-9
returns-in-9 c = rw c.then_some-in-9.ensures (ds_box c.args.n c.args.kind c.args.param c.with-in-9.result c.in-9.is c.with-in-9.ensures)

pub returns-in_default : goal.returns-in_default
returns-in_default c =
    ds_other c.args.n c.args.kind c.args.param (λ e. omega arith) (λ e. omega arith) (λ e. omega arith) (λ e. omega arith) (λ e. omega arith)
