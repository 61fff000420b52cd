-- The lowest number that passes a test, and the loop over 0, 1, .. that looks for it.
use Rattle.std.specs.Prelude.{◌≡◌, refl, Bool, true, false, ℕ, zero, suc, ◌+◌, ◌≤◌, ◌<◌}
use Rattle.std.proofs.Common.{sym, subst, add-one, arith}
use Rattle.finite.specs.Tests.{any, first}
use Rattle.finite.proofs.Laws.Bools.{either, look, clash, no_true, or_out}
use Rattle.finite.proofs.Laws.Below.{equal?, any_in, any_none, none_any, any_cong}

-- a test is read below the bound alone
pub first_cong : (n : ℕ) (f g : ℕ → Bool) → ((t : ℕ) → t < n → f t ≡ g t) → first n f ≡ first n g
unfolding first
first_cong zero f g h = refl
first_cong (suc n) f g h =
    rw (any_cong n f g (λ t l. h t (omega arith)), first_cong n f g (λ t l. h t (omega arith)), h n (omega arith))

-- a number that passes, with none below it that does, is the lowest
pub first_is : (n : ℕ) (f : ℕ → Bool) (i : ℕ) → i < n → any i f ≡ false → f i ≡ true → first n f ≡ i
unfolding first any
first_is zero f i h e p = absurd (omega arith)
first_is (suc n) f i h e p =
    either
    (equal? i n)
    (λ q. rw (subst (λ k. any k f ≡ false) q e, subst (λ k. f k ≡ true) q p, first) (sym q))
    (λ q. rw (any_in n f i (omega arith) p, first) (first_is n f i (omega arith) e p))

-- where no number passes, the lowest is the bound
pub first-none : (n : ℕ) (f : ℕ → Bool) → any n f ≡ false → first n f ≡ n
unfolding first any
first-none zero f e = refl
first-none (suc n) f e =
    let a : any n f ≡ false = none_any n f (λ t h. any_none (suc n) f e t (omega arith)) in
    rw (a, any_none (suc n) f e n (omega arith), first)

-- where one passes, so does the lowest, and none below that does
pub first_in : (n : ℕ) (f : ℕ → Bool) → any n f ≡ true → (first n f < n) × (f (first n f) ≡ true) × (any (first n f) f ≡ false)
unfolding first any
first_in zero f p = clash p refl
first_in (suc n) f p =
    either
    (look (any n f))
    (λ e. let a = first_in n f e in rw (e, first) (omega (arith, a.0), a.1, a.2))
    (λ e. let q : f n ≡ true = either (or_out _ _ p) (λ q. q) (λ q. clash q e) in rw (e, q, first) (omega arith, q, e))

pub first_low : (n : ℕ) (f : ℕ → Bool) (t : ℕ) → t < n → f t ≡ true → first n f ≤ t
first_low n f t h p =
    let r = first_in n f (any_in n f t h p) in
    let no_lower : ¬ (t < first n f) = λ l. clash p (any_none (first n f) f r.2 t l) in
    omega arith

pub first_past : (n : ℕ) (f : ℕ → Bool) → n ≤ first n f → any n f ≡ false
first_past n f h = no_true (λ p. absurd (omega (arith, (first_in n f p).0)))

-- the loop, of whose numbers below i none passes: at its start, after one more, and at its end
pub none_start : (f : ℕ → Bool) → any 0 f ≡ false
unfolding any
none_start f = refl

pub none_more : (f : ℕ → Bool) (i : ℕ) → any i f ≡ false → f i ≡ false → any (i + 1) f ≡ false
unfolding any
none_more f i h e = rw (add-one i, e, h)

pub first_stop : (n : ℕ) (f : ℕ → Bool) (i : ℕ) → any i f ≡ false → i ≤ n → n ≤ i → first n f ≡ i
first_stop n f i a h l = let e : n ≡ i = omega arith in rw e (first-none i f a)
