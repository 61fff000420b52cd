-- Laws of the tests of numbers: equality, order, and tests of every number below a bound.
use Rattle.std.specs.Prelude.{◌≡◌, refl, ◌⊎◌, ◌≢◌, Bool, true, false, not, ◌&&◌, ◌||◌, cond, ℕ, zero, suc, ◌+◌, ◌≤◌, ◌<◌, T, eqb, ltb}
use Rattle.std.proofs.Common.{sym, ap₂, subst, inl, inr, arith, eqb→eq, ltb→lt, lt→ltb}
use Rattle.std.proofs.Math.Path.{subst⁻¹}
use Rattle.std.proofs.Math.Dec.{eqb_refl}
use Rattle.finite.specs.Tests.{same, below, any, all, count}
use Rattle.finite.proofs.Laws.Bools.{either, look, clash, no_true, and_in, and_l, and_r, or_l, or_r, or_out, not_in}

-- what the checker computes, as a test that passes
pub pass : (b : Bool) → T b → b ≡ true
pass true t = refl
pass false t = absurd t

-- equality of numbers, as a test
pub same_eq : {m n : ℕ} → same m n ≡ true → m ≡ n
unfolding same
same_eq {m} {n} p = eqb→eq m n (subst⁻¹ T p tt)

pub same_refl : (n : ℕ) → same n n ≡ true
unfolding same
same_refl n = pass (eqb n n) (eqb_refl n)

pub eq_same : {m n : ℕ} → m ≡ n → same m n ≡ true
eq_same {m} {n} p = subst (λ k. same m k ≡ true) p (same_refl m)

pub ne_same : {m n : ℕ} → m ≢ n → same m n ≡ false
ne_same h = no_true (λ p. h (same_eq p))

-- numbers of variables that are not equal, in the form that a binder asks for
pub apart : (m n : ℕ) → same m n ≡ false → not (same n m) ≡ true
apart m n e = not_in (λ q. clash (eq_same (sym (same_eq q))) e)

pub equal? : (m n : ℕ) → (m ≡ n) ⊎ (m ≢ n)
equal? m n = go (same m n) refl
  where
    go : (b : Bool) → same m n ≡ b → (m ≡ n) ⊎ (m ≢ n)
    go true e = inl (same_eq e)
    go false e = inr (λ p. clash (eq_same p) e)

-- order of numbers, as a test
pub below_in : (m n : ℕ) → m < n → below m n ≡ true
unfolding below
below_in m n h = pass (ltb m n) (lt→ltb m n h)

pub below_out : (m n : ℕ) → below m n ≡ true → m < n
unfolding below
below_out m n p = ltb→lt m n (subst⁻¹ T p tt)

pub below-not : (m n : ℕ) → n ≤ m → below m n ≡ false
below-not m n h = no_true (λ p. let l = below_out m n p in absurd (omega arith))

pub not-below : (m n : ℕ) → below m n ≡ false → n ≤ m
not-below m n p = let h : ¬ (m < n) = λ l. clash (below_in m n l) p in omega arith

-- some number below a bound passes a test, and all do
pub any_in : (n : ℕ) (f : ℕ → Bool) (t : ℕ) → t < n → f t ≡ true → any n f ≡ true
unfolding any
any_in zero f t h p = absurd (omega arith)
any_in (suc n) f t h p =
    either
    (equal? t n)
    (λ e. or_l (f n) (any n f) (subst (λ k. f k ≡ true) e p))
    (λ e. or_r (f n) (any n f) (any_in n f t (omega arith) p))

pub any_out : (n : ℕ) (f : ℕ → Bool) → any n f ≡ true → (t : ℕ) × (t < n) × (f t ≡ true)
unfolding any
any_out zero f p = clash p refl
any_out (suc n) f p =
    either
    (or_out (f n) (any n f) p)
    (λ q. (n, omega arith, q))
    (λ q. let r = any_out n f q in (r.0, omega (arith, r.1), r.2))

pub all_out : (n : ℕ) (f : ℕ → Bool) → all n f ≡ true → (t : ℕ) → t < n → f t ≡ true
unfolding all
all_out zero f p t h = absurd (omega arith)
all_out (suc n) f p t h =
    either
    (equal? t n)
    (λ e. subst⁻¹ (λ k. f k ≡ true) e (and_l (f n) (all n f) p))
    (λ e. all_out n f (and_r (f n) (all n f) p) t (omega arith))

pub all_in : (n : ℕ) (f : ℕ → Bool) → ((t : ℕ) → t < n → f t ≡ true) → all n f ≡ true
unfolding all
all_in zero f h = refl
all_in (suc n) f h = and_in (h n (omega arith)) (all_in n f (λ t k. h t (omega arith)))

-- where not all pass, one fails
pub all_fails : (n : ℕ) (f : ℕ → Bool) → all n f ≡ false → (t : ℕ) × (t < n) × (f t ≡ false)
unfolding all
all_fails zero f p = clash refl p
all_fails (suc n) f p =
    either
    (look (f n))
    (λ q. let r = all_fails n f (rw q at p) in (r.0, omega (arith, r.1), r.2))
    (λ q. (n, omega arith, q))

-- where no number passes, each fails; and where each fails, none passes
pub any_none : (n : ℕ) (f : ℕ → Bool) → any n f ≡ false → (t : ℕ) → t < n → f t ≡ false
any_none n f e t h = no_true (λ p. clash (any_in n f t h p) e)

pub none_any : (n : ℕ) (f : ℕ → Bool) → ((t : ℕ) → t < n → f t ≡ false) → any n f ≡ false
none_any n f h = no_true (λ p. let r = any_out n f p in clash r.2 (h r.0 r.1))

-- a test is read below the bound alone
pub any_cong : (n : ℕ) (f g : ℕ → Bool) → ((t : ℕ) → t < n → f t ≡ g t) → any n f ≡ any n g
unfolding any
any_cong zero f g h = refl
any_cong (suc n) f g h = ap₂ ◌||◌ (h n (omega arith)) (any_cong n f g (λ t k. h t (omega arith)))

pub all_cong : (n : ℕ) (f g : ℕ → Bool) → ((t : ℕ) → t < n → f t ≡ g t) → all n f ≡ all n g
unfolding all
all_cong zero f g h = refl
all_cong (suc n) f g h = ap₂ ◌&&◌ (h n (omega arith)) (all_cong n f g (λ t k. h t (omega arith)))

pub count_cong : (n : ℕ) (f g : ℕ → Bool) → ((t : ℕ) → t < n → f t ≡ g t) → count n f ≡ count n g
unfolding count
count_cong zero f g h = refl
count_cong (suc n) f g h =
    ap₂ (λ (b : Bool) (k : ℕ). cond b 1 0 + k) (h n (omega arith)) (count_cong n f g (λ t k. h t (omega arith)))
