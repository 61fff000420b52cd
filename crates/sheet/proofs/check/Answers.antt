-- Item 11 by its two tests, then item 12 edit by edit.
use Rattle.std.proofs.Common.{length, not, ◌/◌, arith, ap, sym, ◌∙◌}
use Rattle.finite.proofs.Laws.Below.{ne_same, eq_same, below_in, below-not}
use Rattle.finite.proofs.Laws.First.{none_start, none_more, first_stop, first_is}
use Rattle.sheet.specs.Refusal.{faulty, sized, sheet_verdict}
use Rattle.sheet.proofs.check.Goals as goal

pub returns-then-sheet-ne0 : goal.returns-then-sheet-ne0
unfolding sheet_verdict sized
returns-then-sheet-ne0 c = rw (ne_same c.if-sheet-ne0.true)

pub returns-then-sheet-gt256 : goal.returns-then-sheet-gt256
unfolding sheet_verdict sized
returns-then-sheet-gt256 c = rw (eq_same c.if-sheet-ne0.false, below_in 256 (length c.args.sheet.now) (omega arith))

pub loop-k-init : goal.loop-k-init
loop-k-init c = none_start _

pub returns-then-not-edit_fits : goal.returns-then-not-edit_fits
unfolding sheet_verdict sized faulty
returns-then-not-edit_fits c =
    let n = length c.args.sheet.now / 4 in
    let w = first_is n (faulty c.args.sheet.now) c.loop-k.k (omega arith) c.loop-k.invariant (ap not (sym c.edit_fits.ensures) ∙ c.if-not-edit_fits.true-raw) in
    rw (eq_same c.if-sheet-ne0.false, below-not 256 _ c.if-sheet-gt256.false, w, below_in c.loop-k.k n (omega arith))

pub loop-k-preserved : goal.loop-k-preserved
unfolding faulty
loop-k-preserved c = none_more _ c.loop-k.k c.loop-k.invariant (ap not (sym c.edit_fits.ensures) ∙ c.if-not-edit_fits.false-raw)

pub returns : goal.returns
unfolding sheet_verdict sized
returns c =
    let n = length c.args.sheet.now / 4 in
    let w = first_stop n (faulty c.args.sheet.now) c.loop-k.k c.loop-k.invariant (omega arith) (omega arith) in
    rw (eq_same c.if-sheet-ne0.false, below-not 256 _ c.if-sheet-gt256.false, w, below-not c.loop-k.k n (omega arith))
