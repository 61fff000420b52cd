-- An edit read, row by row of the table of operations.
use Rattle.std.proofs.Common.{arith}
use Rattle.finite.proofs.Laws.Arms.{missed}
use Rattle.sheet.specs.Bytes.{read_edit}
use Rattle.sheet.proofs.Laws.Read.{read_past}
use Rattle.sheet.proofs.read_edit.Goals as goal

pub returns-in-0 : goal.returns-in-0
unfolding read_edit
returns-in-0 c = rw c.in-0.is

pub returns-in-1 : goal.returns-in-1
unfolding read_edit
returns-in-1 c = rw c.in-1.is

pub returns-in-2 : goal.returns-in-2
unfolding read_edit
returns-in-2 c = rw c.in-2.is

pub returns-in-3 : goal.returns-in-3
unfolding read_edit
returns-in-3 c = rw c.in-3.is

pub returns-in-4 : goal.returns-in-4
unfolding read_edit
returns-in-4 c = rw c.in-4.is c.link_edit.ensures

pub returns-in-5 : goal.returns-in-5
unfolding read_edit
returns-in-5 c = rw c.in-5.is

pub returns-in-6 : goal.returns-in-6
unfolding read_edit
returns-in-6 c = rw c.in-6.is

pub returns-in-7 : goal.returns-in-7
unfolding read_edit
returns-in-7 c = rw c.in-7.is

pub returns-in_default : goal.returns-in_default
returns-in_default c = read_past _ _ _ _ _ (missed 0 8 _ c.in_default.in_default-own.rest (omega arith))
