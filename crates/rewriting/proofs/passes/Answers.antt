-- The edits that are done are the last ones.
use Rattle.std.proofs.Common.{arith, refl}
use Rattle.std.proofs.lemmas.Result.{err_from_is_err_and}
use Rattle.rewriting.proofs.Laws.Passes.{keeps, passing_start, passing_more, passing_long, passing_fits, legal-at}
use Rattle.rewriting.specs.State.{pass_of}
use Rattle.rewriting.proofs.passes.Goals as goal

pub loop-k-init : goal.loop-k-init
loop-k-init c =
    passing_start (pass_of c.args.purpose) c.args.edition c.args.sheet.now c.args.table.now c.args.n _ (c.fits-table, c.requires.fits) (omega arith) (omega arith) (omega arith) refl

pub pass-requires-clause-legal : goal.pass-requires-clause-legal
pass-requires-clause-legal c = legal-at _ _ _ c.edit_at-e.ensures (omega arith) c.requires.legal

pub pass-requires-clause-fits : goal.pass-requires-clause-fits
pass-requires-clause-fits c = passing_fits c.loop-k.invariant

pub returns-in_err-count : goal.returns-in_err-count
returns-in_err-count c =
    let p = err_from_is_err_and c.from_residual.result c.from_residual.ensures.1 in
    rw (p.1, p.2) (passing_long c.loop-k.invariant (omega arith) c.edit_at-e.ensures c.loop-k.table c.pass.new.out (rw c.in_err-count.was at c.pass.ensures))

pub loop-k-preserved : goal.loop-k-preserved
loop-k-preserved c =
    passing_more c.loop-k.invariant (omega arith) c.edit_at-e.ensures (keeps c.args.purpose) c.pass.new.out (rw c.in_ok-count.was at c.pass.ensures) (omega arith)
    (rw c.copy_from_slice.ensures.after refl) (legal-at _ _ _ c.edit_at-e.ensures (omega arith) c.requires.legal)
