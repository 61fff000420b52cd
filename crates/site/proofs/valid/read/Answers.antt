-- The items in order, each by its test.
use Rattle.std.proofs.Common.{List, ℕ, ◌∙◌, ap, sym, not, refl, true≢false}
use Rattle.finite.proofs.Laws.Below.{eq_same, ne_same}
use Rattle.semantics.specs.Holds.{Model}
use Rattle.site.proofs.Laws.Fits.{item_met, item_unmet}
use Rattle.site.specs.Refusal.{item4, item5, item6, site_verdict}
use Rattle.site.specs.Site.{site_of}
use Rattle.site.proofs.valid.read.Goals as goal

pub returns-in_default-clause-verdict : goal.returns-in_default-clause-verdict
unfolding site_verdict
returns-in_default-clause-verdict c = rw (ne_same (λ e. true≢false (sym (c.in_default.ensures.sized.1 e))))

pub returns-then-not-names_fit-clause-verdict : goal.returns-then-not-names_fit-clause-verdict
unfolding site_verdict
returns-then-not-names_fit-clause-verdict c = let M : Model = site_of c.args.bytes.now in
    rw (eq_same (c.in-Some.ensures.sized.0 refl), item_met _ (item4 M) (c.names_fit.ensures ∙ ap (λ (S : List ℕ). not (item4 (site_of S))) c.in-Some.ensures.some) c.if-not-names_fit.true-raw)

pub returns-then-not-labels_fit-clause-verdict : goal.returns-then-not-labels_fit-clause-verdict
unfolding site_verdict
returns-then-not-labels_fit-clause-verdict c = let M : Model = site_of c.args.bytes.now in
    rw (eq_same (c.in-Some.ensures.sized.0 refl), item_unmet _ (item4 M) (c.names_fit.ensures ∙ ap (λ (S : List ℕ). not (item4 (site_of S))) c.in-Some.ensures.some) c.if-not-names_fit.false-raw, item_met _ (item5 M) (c.labels_fit.ensures ∙ ap (λ (S : List ℕ). not (item5 (site_of S))) c.in-Some.ensures.some) c.if-not-labels_fit.true-raw)

pub returns-then-not-links_fit-clause-verdict : goal.returns-then-not-links_fit-clause-verdict
unfolding site_verdict
returns-then-not-links_fit-clause-verdict c = let M : Model = site_of c.args.bytes.now in
    rw (eq_same (c.in-Some.ensures.sized.0 refl), item_unmet _ (item4 M) (c.names_fit.ensures ∙ ap (λ (S : List ℕ). not (item4 (site_of S))) c.in-Some.ensures.some) c.if-not-names_fit.false-raw, item_unmet _ (item5 M) (c.labels_fit.ensures ∙ ap (λ (S : List ℕ). not (item5 (site_of S))) c.in-Some.ensures.some) c.if-not-labels_fit.false-raw, item_met _ (item6 M) (c.links_fit.ensures ∙ ap (λ (S : List ℕ). not (item6 (site_of S))) c.in-Some.ensures.some) c.if-not-links_fit.true-raw)

pub returns-clause-verdict : goal.returns-clause-verdict
unfolding site_verdict
returns-clause-verdict c = let M : Model = site_of c.args.bytes.now in
    rw (eq_same (c.in-Some.ensures.sized.0 refl), item_unmet _ (item4 M) (c.names_fit.ensures ∙ ap (λ (S : List ℕ). not (item4 (site_of S))) c.in-Some.ensures.some) c.if-not-names_fit.false-raw, item_unmet _ (item5 M) (c.labels_fit.ensures ∙ ap (λ (S : List ℕ). not (item5 (site_of S))) c.in-Some.ensures.some) c.if-not-labels_fit.false-raw, item_unmet _ (item6 M) (c.links_fit.ensures ∙ ap (λ (S : List ℕ). not (item6 (site_of S))) c.in-Some.ensures.some) c.if-not-links_fit.false-raw)
