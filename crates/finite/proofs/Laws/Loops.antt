-- Tests below a bound that is a sum, and loops that test 0, 1, .. and leave at the first that fails.
use Rattle.std.specs.Prelude.{◌≡◌, refl, Bool, true, false, ◌&&◌, ℕ, zero, suc, ◌+◌, ◌*◌, ◌≤◌, ◌<◌}
use Rattle.std.proofs.Common.{sym, add-zero, add-suc, mul-suc, add-one, arith}
use Rattle.std.proofs.Math.Bool.{and-true}
use Rattle.finite.specs.Tests.{all}
use Rattle.finite.proofs.Laws.Bools.{no_true, clash}
use Rattle.finite.proofs.Laws.Below.{all_in, all_out}

and_swap : (a b c : Bool) → (a && (b && c)) ≡ (b && (a && c))
and_swap true b c = refl
and_swap false true c = refl
and_swap false false c = refl

pub all_add : (m n : ℕ) (f : ℕ → Bool) → all (m + n) f ≡ (all m f && all n (λ k. f (m + k)))
unfolding all
all_add m zero f = rw add-zero (sym (and-true (all m f)))
all_add m (suc n) f = rw (add-suc, all_add m n f) (and_swap (f (m + n)) (all m f) (all n (λ k. f (m + k))))

-- where one number fails, not all pass
pub all-not : (n : ℕ) (f : ℕ → Bool) (k : ℕ) → k < n → f k ≡ false → all n f ≡ false
all-not n f k h e = no_true (λ p. clash (all_out n f p k h) e)

-- a loop that has passed the tests below i: at its start, after one more, at its end
pub all_none : (f : ℕ → Bool) → all 0 f ≡ true
unfolding all
all_none f = refl

pub all_more : (f : ℕ → Bool) (i : ℕ) → all i f ≡ true → f i ≡ true → all (i + 1) f ≡ true
unfolding all
all_more f i h e = rw (add-one i, h, e)

pub all_done : (n : ℕ) (f : ℕ → Bool) (i : ℕ) → all i f ≡ true → i ≤ n → n ≤ i → all n f ≡ true
all_done n f i h a b = rw (let e : n ≡ i = omega arith in e) h

-- the same with n tests at a time: after n more, and where not all of them pass
module _ (n : ℕ) (f : ℕ → Bool) (k : ℕ) where
  pub all_more_by : all (n * k) f ≡ true → all n (λ j. f (n * k + j)) ≡ true → all (n * (k + 1)) f ≡ true
  all_more_by p q = rw (add-one k, mul-suc, all_add (n * k) n f, p, q)

  pub all_not_by : (m : ℕ) → n * k + n ≤ m → all n (λ j. f (n * k + j)) ≡ false → all m f ≡ false
  all_not_by m h q = no_true (λ p. clash (all_in n _ (λ j l. all_out m f p (n * k + j) (omega arith))) q)
