-- The lowest set bit of a number, the bits below it, and the number without it.
use Rattle.std.specs.Prelude.{◌≡◌, ◌≢◌, false, ◌||◌, ℕ, zero, suc, ◌-◌, ◌*◌, ◌/◌, ◌%◌, ◌^◌, ◌<◌}
use Rattle.std.proofs.Common.{◌∙◌, ap, add-zero, arith}
use Rattle.std.proofs.Math.Nat.{two-pow-succ}
use Rattle.std.specs.Int.Bits.{bit_and, and_step, and_self}
use Rattle.std.specs.Int.Count.{count_trailing_zeros}
use Rattle.finite.specs.Tests.{bit, same}
use Rattle.finite.proofs.Laws.Bools.{either}
use Rattle.finite.proofs.Laws.Below.{equal?, same_refl, ne_same}
use Rattle.finite.proofs.Laws.Bits.{bit-suc}
use Rattle.finite.proofs.Laws.Weights.{same-suc}

-- a number without its lowest set bit
even_step : (w : ℕ) → w % 2 ≡ 0 → w ≢ 0 → bit_and w (w - 1) ≡ bit_and (w / 2) (w / 2 - 1) * 2
even_step w e n =
    let f : (w - 1) / 2 ≡ w / 2 - 1 = omega arith in
    let g : (w - 1) % 2 ≡ 1 = omega arith in
    and_step w (w - 1) ∙ rw (e, f, g) (add-zero _)

odd_step : (w : ℕ) → w % 2 ≡ 1 → bit_and w (w - 1) ≡ w / 2 * 2
odd_step w e =
    let f : (w - 1) / 2 ≡ w / 2 = omega arith in
    let g : (w - 1) % 2 ≡ 0 = omega arith in
    and_step w (w - 1) ∙ rw (e, f, g, and_self (w / 2)) (add-zero _)

bit_twice : (a j : ℕ) → bit (a * 2) (suc j) ≡ bit a j
bit_twice a j = bit-suc (a * 2) j ∙ ap (λ (v : ℕ). bit v j) (let e : a * 2 / 2 ≡ a = omega arith in e)

-- the lowest bit
bit_low : (a d : ℕ) → a % 2 ≡ d → bit a 0 ≡ same d 1
unfolding bit same
bit_low a d e = ap (λ (x : ℕ). same x 1) (let f : a / 2 ^ 0 % 2 ≡ d = omega arith in f)

-- of the set bits of w, a number of k bits, t is the lowest, and those of v are the others
abbrev Lowest : ℕ → ℕ → ℕ → ℕ → Type 0
Lowest k w t v = (t < k) × ((j : ℕ) → bit w j ≡ (same j t || bit v j))

lowest_even : (k w : ℕ) {t : ℕ} → w % 2 ≡ 0 → w ≢ 0 → Lowest k (w / 2) t (bit_and (w / 2) (w / 2 - 1)) → Lowest (suc k) w (suc t) (bit_and w (w - 1))
lowest_even k w {t} e n q = (omega (arith, q.0), at)
  where
    at : (j : ℕ) → bit w j ≡ (same j (suc t) || bit (bit_and w (w - 1)) j)
    at zero =
        let f : (bit_and (w / 2) (w / 2 - 1) * 2) % 2 ≡ 0 = omega arith in
        rw (even_step w e n, bit_low w 0 e, bit_low (bit_and (w / 2) (w / 2 - 1) * 2) 0 f, ne_same {m = 0} {n = suc t} (λ z. omega arith))
    at (suc j) = rw (even_step w e n, bit_twice (bit_and (w / 2) (w / 2 - 1)) j, ← (same-suc j t)) (bit-suc w j ∙ q.1 j)

lowest_odd : (k w : ℕ) → w % 2 ≡ 1 → Lowest (suc k) w 0 (bit_and w (w - 1))
lowest_odd k w e = (omega arith, at)
  where
    at : (j : ℕ) → bit w j ≡ (same j 0 || bit (bit_and w (w - 1)) j)
    at zero = rw (same_refl 0) (bit_low w 1 e ∙ same_refl 1)
    at (suc j) = rw (odd_step w e, bit_twice (w / 2) j, ne_same {m = suc j} {n = 0} (λ z. omega arith)) (bit-suc w j)

pub lowest : (k w : ℕ) → w < 2 ^ k → w ≢ 0 → Lowest k w (count_trailing_zeros k w) (bit_and w (w - 1))
unfolding count_trailing_zeros
lowest zero w h n = absurd (n (omega arith))
lowest (suc k) w h n =
    either
    (equal? (w % 2) 0)
    (λ e. rw e (lowest_even k w e n (lowest k (w / 2) (omega (arith, two-pow-succ k)) (λ z. n (omega arith)))))
    (λ f. let e : w % 2 ≡ 1 = omega arith in rw e (lowest_odd k w e))

-- below the lowest set bit no bit is set
pub none_lower : (k w j : ℕ) → j < count_trailing_zeros k w → bit w j ≡ false
unfolding count_trailing_zeros
none_lower zero w j h = absurd (omega arith)
none_lower (suc k) w zero h =
    either
    (equal? (w % 2) 0)
    (λ e. bit_low w 0 e ∙ ne_same {m = 0} {n = 1} (λ z. omega arith))
    (λ f. let e : w % 2 ≡ 1 = omega arith in absurd (omega (arith, rw e at h)))
none_lower (suc k) w (suc j) h =
    either
    (equal? (w % 2) 0)
    (λ e. bit-suc w j ∙ none_lower k (w / 2) j (omega (arith, rw e at h)))
    (λ f. let e : w % 2 ≡ 1 = omega arith in absurd (omega (arith, rw e at h)))

-- and it is not in the number without it
pub lowest_gone : (k w : ℕ) → w < 2 ^ k → w ≢ 0 → bit (bit_and w (w - 1)) (count_trailing_zeros k w) ≡ false
unfolding count_trailing_zeros
lowest_gone zero w h n = absurd (n (omega arith))
lowest_gone (suc k) w h n =
    either
    (equal? (w % 2) 0)
    (λ e. rw (e, even_step w e n) (bit_twice (bit_and (w / 2) (w / 2 - 1)) (count_trailing_zeros k (w / 2)) ∙ lowest_gone k (w / 2) (omega (arith, two-pow-succ k)) (λ z. n (omega arith))))
    (λ e.
    let o : w % 2 ≡ 1 = omega arith in
    rw (o, odd_step w o) (bit_low (w / 2 * 2) 0 (let z : w / 2 * 2 % 2 ≡ 0 = omega arith in z) ∙ ne_same {m = 0} {n = 1} (λ z. omega arith)))
