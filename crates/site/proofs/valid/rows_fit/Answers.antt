-- The rows of the slots below s fit.
use Rattle.std.proofs.Common.{◌≡◌, List, ℕ, ◌+◌, ◌*◌, sym, ◌∙◌, ap, arith}
use Rattle.site.specs.Layout.{row_at}
use Rattle.site.specs.Inside.{row_inside}
use Rattle.bitset.specs.Set.{set_slots}
use Rattle.finite.proofs.Laws.Loops.{all_none, all_more, all-not}
use borrow.Author.Tests.{not-true, not-false}
use Rattle.site.proofs.valid.rows_fit.Goals as goal

-- where row s stands
at : (S E : List ℕ) (m i s : ℕ) → i ≡ m → row_inside S (row_at m s) E s ≡ row_inside S (1616 + 8192 * i + 32 * s) E s
at S E m i s e = ap (λ (b : ℕ). row_inside S b E s) (omega (arith, e))

pub loop-s-init : goal.loop-s-init
loop-s-init c = (omega arith, all_none _)

pub returns-then-not-row_fits : goal.returns-then-not-row_fits
returns-then-not-row_fits c = sym (all-not set_slots _ c.loop-s.s c.loop-s-test.true (at c.args.site.now c.args.onsite.now c.args.m.number c.index.result c.loop-s.s c.index.ensures ∙ sym c.row_fits.ensures ∙ not-true _ c.if-not-row_fits.true-raw))

pub loop-s-preserved : goal.loop-s-preserved
loop-s-preserved c = (omega arith, all_more _ _ c.loop-s.invariant.1 (at c.args.site.now c.args.onsite.now c.args.m.number c.index.result c.loop-s.s c.index.ensures ∙ sym c.row_fits.ensures ∙ not-false _ c.if-not-row_fits.false-raw))
