-- What item 18 says of an edition.
use Rattle.std.specs.Prelude.{◌≡◌, ◌⊎◌, true, false, ℕ, Err}
use Rattle.std.proofs.Common.{sym, ◌∙◌, inl, inr}
use Rattle.finite.specs.Tests.{same}
use Rattle.finite.proofs.Laws.Bools.{either, look, or_l, or_r, or_out}
use Rattle.finite.proofs.Laws.Below.{same_eq, eq_same}
use Rattle.verdict.specs.Verdict.{Accepted}
use Rattle.verdict.specs.declared.Refusal.TheVariants.{Edition}
use Rattle.verdict.proofs.Laws.{refused}
use Rattle.editions.specs.Edition.{second, known, edition_verdict}

pub edition_known : (d : ℕ) → known d ≡ true → edition_verdict d ≡ Accepted
unfolding edition_verdict
edition_known d p = rw p

pub edition_refused : (d : ℕ) → known d ≡ false → edition_verdict d ≡ Err Edition
unfolding edition_verdict
edition_refused d p = rw p

pub known-true : (d : ℕ) → edition_verdict d ≡ Accepted → known d ≡ true
known-true d v = either (look (known d)) (λ p. p) (λ p. refused (sym (edition_refused d p) ∙ v))

-- accepted exactly if it is 1 or 2
pub known_out : (d : ℕ) → edition_verdict d ≡ Accepted → (d ≡ 1) ⊎ (d ≡ second)
unfolding known
known_out d v = either (or_out _ _ (known-true d v)) (λ e. inl (same_eq e)) (λ e. inr (same_eq e))

pub known_in : (d : ℕ) → (d ≡ 1) ⊎ (d ≡ second) → edition_verdict d ≡ Accepted
unfolding known
known_in d h = edition_known d (either h (λ e. or_l _ _ (eq_same e)) (λ e. or_r (same d 1) _ (eq_same e)))
