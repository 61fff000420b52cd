-- What a test's passing says, from what its parts' passing says.
use Rattle.std.specs.Prelude.{◌≡◌, refl, ◌⊎◌, ◌↔◌, Bool, true, false, not, ◌&&◌, ◌||◌, cond, ℕ, ◌<◌}
use Rattle.std.proofs.Common.{ap, inl, inr}
use Rattle.finite.specs.Tests.{same, any, all}
use Rattle.finite.proofs.Laws.Bools.{either, look, clash, and_in, and_l, and_r, or_l, or_r, or_out, not_in, not_out}
use Rattle.finite.proofs.Laws.Below.{same_eq, eq_same, any_in, any_out, all_in, all_out}

pub same_iff : (m n : ℕ) → (same m n ≡ true) ↔ (m ≡ n)
same_iff m n = (same_eq, eq_same)

pub not_iff : (a : Bool) {A : Type 0} → (a ≡ true) ↔ A → (not a ≡ true) ↔ ¬ A
not_iff a f = (λ p q. not_out a p (f.1 q), λ p. not_in (λ q. p (f.0 q)))

pub and_iff : (a b : Bool) {A B : Type 0} → (a ≡ true) ↔ A → (b ≡ true) ↔ B → ((a && b) ≡ true) ↔ (A × B)
and_iff a b f g = (λ p. (f.0 (and_l a b p), g.0 (and_r a b p)), λ p. and_in (f.1 p.0) (g.1 p.1))

pub or_iff : (a b : Bool) {A B : Type 0} → (a ≡ true) ↔ A → (b ≡ true) ↔ B → ((a || b) ≡ true) ↔ (A ⊎ B)
or_iff a b f g = (
  λ p. either (or_out a b p) (λ q. inl (f.0 q)) (λ q. inr (g.0 q)),
  λ p. either p (λ q. or_l a b (f.1 q)) (λ q. or_r a b (g.1 q)),
)

pub cond_iff : (a b c : Bool) {A B C : Type 0} → (a ≡ true) ↔ A → (b ≡ true) ↔ B → (c ≡ true) ↔ C
    → (cond a b c ≡ true) ↔ ((C × ¬ A) ⊎ (A × B))
cond_iff true b c f g h = (
  λ p. inr (f.0 refl, g.0 p),
  λ p. either p (λ q. absurd (q.1 (f.0 refl))) (λ q. g.1 q.1),
)
cond_iff false b c f g h = (
  λ p. inl (h.0 p, λ q. clash (f.1 q) refl),
  λ p. either p (λ q. h.1 q.0) (λ q. clash (f.1 q.0) refl),
)

-- some number below n that passes a does what b tests, and every such number does
module _ (n : ℕ) (a b : ℕ → Bool) {B : ℕ → Type 0} (f : (t : ℕ) → t < n → (b t ≡ true) ↔ B t) where
  pub some_iff : (any n (λ t. a t && b t) ≡ true) ↔ ((t : ℕ) × (t < n) × (a t ≡ true) × B t)
  some_iff = (
    λ p. let r = any_out n _ p in (r.0, r.1, and_l _ _ r.2, (f r.0 r.1).0 (and_r (a r.0) _ r.2)),
    λ p. any_in n _ p.0 p.1 (and_in p.2 ((f p.0 p.1).1 p.3)),
  )

  pub every_iff : (all n (λ t. not (a t) || b t) ≡ true) ↔ ((t : ℕ) → t < n → a t ≡ true → B t)
  every_iff = (
    λ p t k q. either (or_out _ _ (all_out n _ p t k)) (λ r. absurd (not_out _ r q)) (λ r. (f t k).0 r),
    λ p. all_in n _ (λ t k. either (look (a t)) (λ q. or_r (not (a t)) _ ((f t k).1 (p t k q))) (λ q. or_l _ _ (ap not q))),
  )
