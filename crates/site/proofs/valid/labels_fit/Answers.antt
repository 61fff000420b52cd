-- The sets of the labels below p lie inside the slots on site.
use Rattle.std.proofs.Common.{sym, ◌∙◌, ap, ℕ, arith}
use Rattle.site.specs.Layout.{label_at}
use Rattle.site.specs.Inside.{inside}
use Rattle.finite.proofs.Laws.Loops.{all_none, all_more, all_done, all-not}
use Rattle.limits.specs.Limits.{labels}
use Rattle.site.proofs.Laws.Fits.{labels-inside}
use borrow.Author.Tests.{not-true, not-false}
use Rattle.site.proofs.valid.labels_fit.Goals as goal

pub loop-p-init : goal.loop-p-init
loop-p-init c = (omega arith, all_none _)

pub returns-then-not-part_inside : goal.returns-then-not-part_inside
returns-then-not-part_inside c = sym (sym (labels-inside _ _ c.requires) ∙ all-not labels _ c.loop-p.p c.loop-p-test.true (ap (λ (p : ℕ). inside c.args.site.now (label_at p) c.args.onsite.now) (sym c.from.ensures) ∙ sym c.part_inside.ensures ∙ not-true _ c.if-not-part_inside.true-raw))

pub loop-p-preserved : goal.loop-p-preserved
loop-p-preserved c = (omega arith, all_more _ _ c.loop-p.invariant.1 (ap (λ (p : ℕ). inside c.args.site.now (label_at p) c.args.onsite.now) (sym c.from.ensures) ∙ sym c.part_inside.ensures ∙ not-false _ c.if-not-part_inside.false-raw))

pub returns : goal.returns
returns c = sym (sym (labels-inside _ _ c.requires) ∙ all_done labels _ _ c.loop-p.invariant.1 (omega arith) (omega arith))
