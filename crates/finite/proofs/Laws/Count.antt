-- Laws of counting: how many numbers below a bound pass a test.
use Rattle.std.specs.Prelude.{◌≡◌, refl, Bool, true, false, cond, ℕ, zero, suc, ◌+◌, ◌≤◌, ◌<◌}
use Rattle.std.proofs.Common.{sym, subst, add-zero, add-suc, arith}
use Rattle.finite.specs.Tests.{below, any, count}
use Rattle.finite.proofs.Laws.Bools.{either, look}
use Rattle.finite.proofs.Laws.Below.{below_in, equal?}

pub count_le : (n : ℕ) (f : ℕ → Bool) → count n f ≤ n
unfolding count
count_le zero f = omega arith
count_le (suc n) f =
    either (look (f n)) (λ e. rw (e, count) (omega (arith, count_le n f))) (λ e. rw (e, count) (omega (arith, count_le n f)))

-- some number passes exactly where one is counted
pub any_counted : (n : ℕ) (f : ℕ → Bool) → any n f ≡ below 0 (count n f)
unfolding any below count
any_counted zero f = refl
any_counted (suc n) f =
    either (look (f n)) (λ e. rw (e, count) (sym (below_in 0 (1 + count n f) (omega arith)))) (λ e. let z : 0 + count n f ≡ count n f = omega arith in rw (e, count, z) (any_counted n f))

-- where all numbers pass or none does, all or none are counted
pub count_like : (n : ℕ) (f : ℕ → Bool) (b : Bool) → ((x : ℕ) → x < n → f x ≡ b) → count n f ≡ cond b n 0
unfolding count
count_like zero f true h = refl
count_like zero f false h = refl
count_like (suc n) f true h = rw (h n (omega arith), count_like n f true (λ x k. h x (omega arith))) (omega arith)
count_like (suc n) f false h = rw (h n (omega arith), count_like n f false (λ x k. h x (omega arith))) (omega arith)

-- where more numbers pass, more are counted
pub count_mono : (n : ℕ) (f g : ℕ → Bool) → ((x : ℕ) → x < n → f x ≡ true → g x ≡ true) → count n f ≤ count n g
unfolding count
count_mono zero f g h = omega arith
count_mono (suc n) f g h =
    let ih : count n f ≤ count n g = count_mono n f g (λ x k. h x (omega arith)) in
    either (look (f n)) (λ e. rw (e, h n (omega arith) e, count) (omega arith)) (λ e. rw (e, count) (omega arith))

pub count_more : (n : ℕ) (f g : ℕ → Bool) → ((x : ℕ) → x < n → f x ≡ true → g x ≡ true)
    → (x : ℕ) → x < n → f x ≡ false → g x ≡ true → count n f < count n g
unfolding count
count_more zero f g h x k p q = absurd (omega arith)
count_more (suc n) f g h x k p q =
    let hn : (y : ℕ) → y < n → f y ≡ true → g y ≡ true = λ y l. h y (omega arith) in
    either
    (equal? x n)
    (λ e.
    let p' : f n ≡ false = subst (λ y. f y ≡ false) e p in
    let q' : g n ≡ true = subst (λ y. g y ≡ true) e q in
    rw (p', q', count) (omega (arith, count_mono n f g hn)))
    (λ e.
    let ih : count n f < count n g = count_more n f g hn x (omega arith) p q in
    either (look (f n)) (λ a. rw (a, h n (omega arith) a, count) (omega arith)) (λ a. rw (a, count) (omega arith)))

-- where as many pass as there are numbers, all do
pub count-full : (n : ℕ) (f : ℕ → Bool) → n ≤ count n f → (x : ℕ) → x < n → f x ≡ true
unfolding count
count-full zero f h x k = absurd (omega arith)
count-full (suc n) f h x k =
    either
    (look (f n))
    (λ e.
    let l : n ≤ count n f = omega (arith, rw (e, count) at h) in
    either (equal? x n) (λ q. subst (λ y. f y ≡ true) (sym q) e) (λ q. count-full n f l x (omega arith)))
    (λ e. absurd (omega (arith, rw (e, count) at h, count_le n f)))

-- how many pass below a bound that is a sum
pub count_add : (m n : ℕ) (f : ℕ → Bool) → count (m + n) f ≡ count m f + count n (λ k. f (m + k))
unfolding count
count_add m zero f = rw (add-zero m) (omega arith)
count_add m (suc n) f = rw (add-suc, count_add m n f) (omega arith)
