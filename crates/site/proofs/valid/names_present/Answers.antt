-- The names below n are at present slots.
use Rattle.std.proofs.Common.{sym, ◌∙◌, ap, arith}
use Rattle.finite.proofs.Laws.Loops.{all_none, all_more, all-not}
use Rattle.limits.specs.Limits.{names}
use Rattle.site.specs.Site.{site_of}
use borrow.Author.Tests.{not-true, not-false}
use Rattle.site.proofs.valid.names_present.Goals as goal

pub loop-n-init : goal.loop-n-init
loop-n-init c = (omega arith, all_none _)

pub returns-then-not-present : goal.returns-then-not-present
returns-then-not-present c = sym (all-not names _ c.loop-n.n c.loop-n-test.true (ap (λ n. (site_of c.args.site.now).present ((site_of c.args.site.now).place n)) (sym c.at.ensures) ∙ ap (site_of c.args.site.now).present (sym c.place.ensures) ∙ sym c.present.ensures ∙ not-true _ c.if-not-present.true-raw))

pub loop-n-preserved : goal.loop-n-preserved
loop-n-preserved c = (omega arith, all_more _ _ c.loop-n.invariant.1 (ap (λ n. (site_of c.args.site.now).present ((site_of c.args.site.now).place n)) (sym c.at.ensures) ∙ ap (site_of c.args.site.now).present (sym c.place.ensures) ∙ sym c.present.ensures ∙ not-false _ c.if-not-present.false-raw))
