-- The links below m fit.
use Rattle.std.proofs.Common.{sym, ◌∙◌, ap, ℕ, not, arith}
use Rattle.site.specs.Site.{site_of}
use Rattle.site.specs.Refusal.{touches}
use Rattle.finite.proofs.Laws.Loops.{all_none, all_more, all_done, all-not}
use Rattle.limits.specs.Limits.{links}
use Rattle.site.proofs.Laws.Fits.{links-all}
use borrow.Author.Tests.{not-true, not-false}
use Rattle.site.proofs.valid.links_fit.Goals as goal

pub loop-m-init : goal.loop-m-init
loop-m-init c = (omega arith, all_none _)

pub returns-then-not-link_fits : goal.returns-then-not-link_fits
returns-then-not-link_fits c = sym (links-all _ ∙ all-not links _ c.loop-m.m c.loop-m-test.true (ap (λ (m : ℕ). not (touches (site_of c.args.site.now) m)) (sym c.at.ensures) ∙ sym c.link_fits.ensures ∙ not-true _ c.if-not-link_fits.true-raw))

pub loop-m-preserved : goal.loop-m-preserved
loop-m-preserved c = (omega arith, all_more _ _ c.loop-m.invariant.1 (ap (λ (m : ℕ). not (touches (site_of c.args.site.now) m)) (sym c.at.ensures) ∙ sym c.link_fits.ensures ∙ not-false _ c.if-not-link_fits.false-raw))

pub returns : goal.returns
returns c = sym (links-all _ ∙ all_done links _ _ c.loop-m.invariant.1 (omega arith) (omega arith))
