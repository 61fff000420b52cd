-- Numbers by their binary digits: powers of two, and numbers with the same digits.
use Rattle.std.specs.Prelude.{◌≡◌, refl, false, ℕ, zero, suc, ◌/◌, ◌%◌, ◌^◌, ◌<◌, eqb}
use Rattle.std.proofs.Common.{sym, ◌∙◌, ap, true≢false, mod-lt, zero-lt-suc, arith, pow_pos, ne_eqb}
use Rattle.std.proofs.lemmas.Bool.{false≢true}
use Rattle.std.proofs.Math.Nat.{two-pow-succ, zero-div}
use Rattle.finite.specs.Tests.{same, bit}
use Rattle.finite.proofs.Laws.Bools.{both}
use Rattle.finite.proofs.Laws.Below.{same_eq, eq_same, ne_same}
use Rattle.finite.proofs.Laws.Bits.{bit-suc}

pub bit-zero : (k : ℕ) → bit 0 k ≡ false
unfolding bit
bit-zero k = rw (zero-div (2 ^ k)) refl

pub same-suc : (j k : ℕ) → same j k ≡ same (suc j) (suc k)
same-suc j k =
    both
    (λ e. eq_same (ap suc (same_eq e)))
    (λ e. let s : suc j ≡ suc k = same_eq e in eq_same (let t : j ≡ k = omega arith in t))

-- the digits of 2 ^ j
pub bit-weight : (j k : ℕ) → bit (2 ^ j) k ≡ same j k
unfolding bit same
bit-weight zero zero = refl
bit-weight zero (suc k) = bit-suc 1 k ∙ bit-zero k ∙ sym (ne_same {m = 0} {n = suc k} (λ e. omega arith))
bit-weight (suc j) zero =
    ne_eqb (2 ^ suc j / 2 ^ 0 % 2) 1 (λ e. omega (arith, two-pow-succ j)) ∙ sym (ne_same {m = suc j} {n = 0} (λ e. omega arith))
bit-weight (suc j) (suc k) =
    let half : 2 ^ suc j / 2 ≡ 2 ^ j = omega (arith, two-pow-succ j) in
    bit-suc (2 ^ suc j) k ∙ ap (λ (a : ℕ). bit a k) half ∙ bit-weight j k ∙ same-suc j k

-- a number is told by its digits
digit_eq : (x y : ℕ) → x < 2 → y < 2 → eqb x 1 ≡ eqb y 1 → x ≡ y
digit_eq zero zero hx hy e = refl
digit_eq zero (suc zero) hx hy e = absurd (false≢true e)
digit_eq (suc zero) zero hx hy e = absurd (true≢false e)
digit_eq (suc zero) (suc zero) hx hy e = refl
digit_eq zero (suc (suc y)) hx hy e = absurd (omega arith)
digit_eq (suc zero) (suc (suc y)) hx hy e = absurd (omega arith)
digit_eq (suc (suc x)) y hx hy e = absurd (omega arith)

bit_low : (a b : ℕ) → bit a 0 ≡ bit b 0 → a % 2 ≡ b % 2
unfolding bit
bit_low a b e = let d = digit_eq (a / 2 ^ 0 % 2) (b / 2 ^ 0 % 2) (mod-lt _ (zero-lt-suc 1)) (mod-lt _ (zero-lt-suc 1)) e in omega arith

pub same_bits : (n a b : ℕ) → a < 2 ^ n → b < 2 ^ n → ((k : ℕ) → k < n → bit a k ≡ bit b k) → a ≡ b
same_bits zero a b ha hb h = omega arith
same_bits (suc n) a b ha hb h =
    let low = bit_low a b (h 0 (omega arith)) in
    let high : a / 2 ≡ b / 2 =
    same_bits n (a / 2) (b / 2) (omega (arith, two-pow-succ n)) (omega (arith, two-pow-succ n))
    (λ k l. sym (bit-suc a k) ∙ h (suc k) (omega arith) ∙ bit-suc b k) in
    omega arith

-- a number without digits is 0
pub no_bits : (n a : ℕ) → a < 2 ^ n → ((k : ℕ) → k < n → bit a k ≡ false) → a ≡ 0
no_bits n a h z = same_bits n a 0 h (pow_pos n) (λ k l. z k l ∙ sym (bit-zero k))
