-- The first edits went through, and what is left of the sheet says the same of the site left.
use Rattle.std.proofs.Common.{sym, ◌∙◌, ap, List, ℕ, arith}
use Rattle.semantics.specs.Edit.{goes}
use Rattle.site.specs.Site.{site_of}
use Rattle.sheet.specs.Bytes.{edit_of}
use Rattle.applying.proofs.Laws.Run.{run_more, run_stop, run_end}
use Rattle.sheet.proofs.Laws.Accepted.{accepted_at, accepted_sheet}
use Rattle.sheet.proofs.Laws.Read.{edits-length}
use Rattle.applying.proofs.run.Goals as goal

pub goes_through-requires : goal.goes_through-requires
goes_through-requires c = rw c.edit_at-edit.ensures (accepted_at c.args.edition c.args.sheet.now c.requires c.loop-k.k (omega arith))

pub returns-then-not-goes_through : goal.returns-then-not-goes_through
returns-then-not-goes_through c =
    let stuck = sym (ap (λ (S : List ℕ). goes (edit_of c.edit_at-edit.result) (site_of S)) c.from.ensures) ∙ sym c.goes_through.ensures ∙ c.if-not-goes_through.true in
    run_stop c.loop-k.invariant c.edit_at-edit.ensures (omega arith) stuck

pub overflow_cast-result : goal.overflow_cast-result
overflow_cast-result c = omega (arith, edits-length c.args.edition c.args.sheet.now, (accepted_sheet c.args.edition c.args.sheet.now c.requires).few)

pub apply_edit-requires-clause-legal : goal.apply_edit-requires-clause-legal
apply_edit-requires-clause-legal c = rw c.edit_at-edit.ensures (accepted_at c.args.edition c.args.sheet.now c.requires c.loop-k.k (omega arith))

pub loop-k-preserved : goal.loop-k-preserved
loop-k-preserved c =
    let through = sym (ap (λ (S : List ℕ). goes (edit_of c.edit_at-edit.result) (site_of S)) c.from.ensures) ∙ sym c.goes_through.ensures ∙ c.if-not-goes_through.false in
    run_more c.loop-k.invariant c.edit_at-edit.ensures (omega arith) through c.apply_edit.ensures

pub returns : goal.returns
returns c = run_end c.loop-k.invariant (omega arith)
