-- Each of item 4's three parts by a call.
use Rattle.std.proofs.Common.{sym, ◌∙◌, ap}
use Rattle.site.specs.Site.{site_of}
use Rattle.site.proofs.Laws.Fits.{nil_absent, nil_elsewhere, names_present}
use borrow.Author.Tests.{not-true, not-false}
use Rattle.site.proofs.valid.names_fit.Goals as goal

pub returns-then-not-present : goal.returns-then-not-present
returns-then-not-present c = sym (nil_absent _ (sym c.present.ensures ∙ not-true _ c.if-not-present.true-raw))

pub returns-then-place-ne0 : goal.returns-then-place-ne0
returns-then-place-ne0 c = sym (nil_elsewhere _ (λ e. c.if-place-ne0.true (c.place.ensures ∙ ap (site_of c.args.site.now).place c.at.ensures ∙ e)))

pub returns : goal.returns
returns c = c.names_present.ensures ∙ sym (names_present _ (sym c.present.ensures ∙ not-false _ c.if-not-present.false-raw) (ap (site_of c.args.site.now).place (sym c.at.ensures) ∙ sym c.place.ensures ∙ c.if-place-ne0.false))
