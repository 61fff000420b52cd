-- The test of item 12, row by row of the table of operations.
use Rattle.std.proofs.Common.{arith}
use Rattle.finite.proofs.Laws.Arms.{missed}
use Rattle.finite.proofs.Laws.Below.{below-not}
use Rattle.finite.specs.Tests.{same, below}
use Rattle.limits.specs.Limits.{slots}
use Rattle.semantics.specs.Edit.{legal}
use Rattle.sheet.specs.Bytes.{read_edit}
use Rattle.sheet.proofs.Laws.Fits.{row-CN2, row-AT, row-DT1, row-AS, row-DS}
use Rattle.sheet.specs.Refusal.{operands, unused_zero, edit_fits}
use Rattle.sheet.proofs.fits.Goals as goal

pub returns-in-0 : goal.returns-in-0
unfolding edit_fits unused_zero operands read_edit legal same below
returns-in-0 c = rw (c.in-0.is, c.may_move.ensures)

pub returns-in-1 : goal.returns-in-1
unfolding same below
returns-in-1 c = rw (c.in-1.is, c.may_move-in-1.ensures, c.is_functional.ensures) (row-CN2 _ _ _)

pub returns-in-2 : goal.returns-in-2
unfolding edit_fits unused_zero operands read_edit legal same below
returns-in-2 c = rw c.in-2.is

pub returns-in-3 : goal.returns-in-3
unfolding edit_fits unused_zero operands read_edit legal same below
returns-in-3 c = rw c.in-3.is

pub returns-in-4 : goal.returns-in-4
unfolding same below
returns-in-4 c = rw c.in-4.is (row-AT _ _ _)

pub returns-in-5 : goal.returns-in-5
unfolding same below
returns-in-5 c = rw c.in-5.is (row-DT1 _ _ _)

pub returns-in-6 : goal.returns-in-6
unfolding edit_fits unused_zero operands read_edit legal same below
returns-in-6 c = rw (c.in-6.is, c.is_functional-in-6.ensures)

pub returns-in-7 : goal.returns-in-7
unfolding same below slots
returns-in-7 c = rw (c.in-7.is, c.may_move-in-7.ensures) (row-AS _ c.args.y _ (omega arith))

pub returns-in-8 : goal.returns-in-8
unfolding same below
returns-in-8 c = rw c.in-8.is (row-DS _ _ _)

pub returns-in_default : goal.returns-in_default
unfolding edit_fits
returns-in_default c = rw (below-not _ 9 (missed 0 9 _ c.in_default.in_default-own.rest (omega arith)))
