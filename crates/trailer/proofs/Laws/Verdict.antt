-- What items 2 and 18 say of a file's length, distances and edition, and what a verdict on it is.
use Rattle.std.specs.Prelude.{◌≡◌, true, false, not, ◌||◌, List, ℕ, ◌≤◌, ◌<◌, length, Err}
use Rattle.std.proofs.Common.{sym, ap, ◌∙◌}
use Rattle.std.proofs.lemmas.Bool.{not-false}
use Rattle.finite.specs.Tests.{same, below}
use Rattle.finite.proofs.Laws.Bools.{either, look, or_none}
use Rattle.finite.proofs.Laws.Below.{same_eq, eq_same, below_in, below-not, not-below}
use Rattle.verdict.specs.Verdict.{Accepted}
use Rattle.verdict.specs.declared.Refusal.{Refusal}
use Rattle.verdict.specs.declared.Refusal.TheVariants.{File, Edition}
use Rattle.verdict.proofs.Laws.{refused}
use Rattle.editions.specs.Edition.{known, edition_verdict}
use Rattle.editions.proofs.Laws.{edition_known, edition_refused}
use Rattle.trailer.specs.File.{trailer_bytes, file_limit, trailer_at, number}
use Rattle.trailer.specs.Refusal.{item2, edition_in, trailer_verdict}

-- a file that item 2 does not refuse
pub record Laid (file : List ℕ) : Type 0 where
  pub enough : trailer_bytes ≤ length file
  pub at_most : length file ≤ file_limit
  pub sheet_first : number 0 file ≤ number 1 file
  pub condition_next : number 1 file ≤ number 2 file
  pub site_last : number 2 file ≡ trailer_at file

pub laid : (file : List ℕ) → item2 file ≡ false → Laid file
unfolding item2
laid file p =
    let q₄ = or_none _ _ p in
    let q₃ = or_none _ _ q₄.0 in
    let q₂ = or_none _ _ q₃.0 in
    let q₁ = or_none _ _ q₂.0 in
    record {
      enough = not-below _ _ q₁.0;
      at_most = not-below _ _ q₁.1;
      sheet_first = not-below _ _ q₂.1;
      condition_next = not-below _ _ q₃.1;
      site_last = same_eq (not-false _ q₄.1);
    }

pub unrefused : (file : List ℕ) → Laid file → item2 file ≡ false
unfolding item2
unrefused file l =
    rw (
      below-not _ _ l.enough,
      below-not _ _ l.at_most,
      below-not _ _ l.sheet_first,
      below-not _ _ l.condition_next,
      eq_same l.site_last,
    )

-- the test by its parts: a length that is refused, and distances that are read
pub too_short : (file : List ℕ) → length file < trailer_bytes → item2 file ≡ true
unfolding item2
too_short file h = rw (below_in _ _ h)

pub too_long : (file : List ℕ) → trailer_bytes ≤ length file → file_limit < length file → item2 file ≡ true
unfolding item2
too_long file l h = rw (below-not _ _ l, below_in _ _ h)

pub by_distances :
    (file : List ℕ) {x y z : ℕ}
    → x ≡ number 0 file → y ≡ number 1 file → z ≡ number 2 file
    → trailer_bytes ≤ length file → length file ≤ file_limit
    → (below y x || below z y || not (same z (trailer_at file))) ≡ item2 file
unfolding item2
by_distances file p q r l h = rw (p, q, r, below-not _ _ l, below-not _ _ h)

-- the edition by the test
pub edition_none : (file : List ℕ) → item2 file ≡ true → edition_in file ≡ 0
unfolding edition_in
edition_none file p = rw p

pub edition_fourth : (file : List ℕ) → item2 file ≡ false → edition_in file ≡ number 3 file
unfolding edition_in
edition_fourth file p = rw p

-- the verdict by the tests, and back
pub trailer_refused : (file : List ℕ) → item2 file ≡ true → trailer_verdict file ≡ Err File
unfolding trailer_verdict
trailer_refused file p = rw p

pub trailer_edition : (file : List ℕ) → item2 file ≡ false → trailer_verdict file ≡ edition_verdict (edition_in file)
unfolding trailer_verdict
trailer_edition file p = rw p

pub trailer_unknown : (file : List ℕ) → item2 file ≡ false → known (edition_in file) ≡ false → trailer_verdict file ≡ Err Edition
trailer_unknown file p k = trailer_edition file p ∙ edition_refused _ k

pub trailer_accepted : (file : List ℕ) → item2 file ≡ false → known (edition_in file) ≡ true → trailer_verdict file ≡ Accepted
trailer_accepted file p k = trailer_edition file p ∙ edition_known _ k

accepted_unmet : (file : List ℕ) → trailer_verdict file ≡ Accepted → item2 file ≡ false
accepted_unmet file v = either (look (item2 file)) (λ p. refused (sym (trailer_refused file p) ∙ v)) (λ p. p)

pub accepted_laid : (file : List ℕ) → trailer_verdict file ≡ Accepted → Laid file
accepted_laid file v = laid file (accepted_unmet file v)

pub accepted_known : (file : List ℕ) → trailer_verdict file ≡ Accepted → edition_verdict (edition_in file) ≡ Accepted
accepted_known file v = sym (trailer_edition file (accepted_unmet file v)) ∙ v

pub laid_accepted : (file : List ℕ) → Laid file → known (edition_in file) ≡ true → trailer_verdict file ≡ Accepted
laid_accepted file l k = trailer_accepted file (unrefused file l) k

-- a file that is refused, with either number, has no known edition
pub refused_unknown : (file : List ℕ) {r : Refusal} → trailer_verdict file ≡ Err r → known (edition_in file) ≡ false
unfolding known same
refused_unknown file v =
    either
    (look (item2 file))
    (λ p. ap known (edition_none file p))
    (λ p. either (look (known (edition_in file))) (λ k. refused (sym v ∙ trailer_accepted file p k)) (λ k. k))
