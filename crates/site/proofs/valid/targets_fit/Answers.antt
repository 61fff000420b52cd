-- The targets of the slots below 32 * k fit.
use Rattle.std.proofs.Common.{sym, ◌∙◌, arith}
use Rattle.bitset.specs.Set.{set_bytes, set_slots}
use Rattle.finite.proofs.Laws.Loops.{all_none, all_more_by, all_not_by}
use borrow.Author.Tests.{not-true, not-false}
use Rattle.site.proofs.valid.targets_fit.Goals as goal

pub loop-k-init : goal.loop-k-init
loop-k-init c = (omega arith, all_none _)

pub returns-then-not-targets_fit_from : goal.returns-then-not-targets_fit_from
returns-then-not-targets_fit_from c = sym (all_not_by set_bytes _ c.loop-k.k set_slots (omega arith) (sym c.targets_fit_from.ensures ∙ not-true _ c.if-not-targets_fit_from.true-raw))

pub loop-k-preserved : goal.loop-k-preserved
loop-k-preserved c = (omega arith, all_more_by set_bytes _ c.loop-k.k c.loop-k.invariant.1 (sym c.targets_fit_from.ensures ∙ not-false _ c.if-not-targets_fit_from.false-raw))
