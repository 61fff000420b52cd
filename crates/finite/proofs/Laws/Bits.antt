-- Laws of binary digits, and facts about small numbers that the checker computes.
use Rattle.std.specs.Prelude.{◌≡◌, refl, Bool, true, false, not, ◌&&◌, ◌||◌, ℕ, zero, suc, ◌+◌, ◌-◌, ◌/◌, ◌%◌, ◌^◌, ◌<◌, T, eqb}
use Rattle.std.proofs.Common.{sym, ◌∙◌, ap, eq-or-lt_of_le, mod-lt, zero-lt-suc, le_of_suc-le-suc, arith, ⊎_elim}
use Rattle.std.proofs.Math.Nat.{pow-succ', two-pow-succ, div-div-eq-div-mul}
use Rattle.std.specs.Int.Bits.{bit_and, bit_or}
use Rattle.std.proofs.lemmas.Nat.{and_shr, and_mod, or_shr, or_mod}
use Rattle.finite.specs.Tests.{bit}

-- ---- a test of every number below n that the checker computes: `all-below p n tt` proves p of each

abbrev pub allb : (ℕ → Bool) → ℕ → Bool
allb p zero = true
allb p (suc n) = p n && allb p n

and_1 : (a b : Bool) → T (a && b) → T a
and_1 true b h = tt
and_1 false b h = h

and_2 : (a b : Bool) → T (a && b) → T b
and_2 true b h = h
and_2 false b h = absurd h

pub all-below : (p : ℕ → Bool) (n : ℕ) → T (allb p n) → (k : ℕ) → k < n → T (p k)
all-below p zero h k hk = absurd (omega arith)
all-below p (suc n) h k hk =
    ⊎_elim (λ e. rw e (and_1 (p n) (allb p n) h)) (λ l. all-below p n (and_2 (p n) (allb p n) h) k l) (eq-or-lt_of_le (le_of_suc-le-suc hk))

-- ---- digits of a union, a meet and a complement

digit_or : (x y : ℕ) → x < 2 → y < 2 → eqb (bit_or x y) 1 ≡ (eqb x 1 || eqb y 1)
digit_or zero y hx hy = refl
digit_or (suc zero) zero hx hy = refl
digit_or (suc zero) (suc zero) hx hy = refl
digit_or (suc zero) (suc (suc y)) hx hy = absurd (omega arith)
digit_or (suc (suc x)) y hx hy = absurd (omega arith)

digit_and : (x y : ℕ) → x < 2 → y < 2 → eqb (bit_and x y) 1 ≡ (eqb x 1 && eqb y 1)
digit_and zero y hx hy = refl
digit_and (suc zero) zero hx hy = refl
digit_and (suc zero) (suc zero) hx hy = refl
digit_and (suc zero) (suc (suc y)) hx hy = absurd (omega arith)
digit_and (suc (suc x)) y hx hy = absurd (omega arith)

digit_not : (x y : ℕ) → x + y ≡ 1 → eqb x 1 ≡ not (eqb y 1)
digit_not zero y e = rw (let h : y ≡ 1 = omega arith in h)
digit_not (suc x) y e = rw (let h : suc x ≡ 1 = omega arith in h, let k : y ≡ 0 = omega arith in k)

pub bit-bit_or : (a b k : ℕ) → bit (bit_or a b) k ≡ (bit a k || bit b k)
unfolding bit
bit-bit_or a b k = rw (or_shr a b k, or_mod (a / 2 ^ k) (b / 2 ^ k) 1) (digit_or (a / 2 ^ k % 2) (b / 2 ^ k % 2) (mod-lt _ (zero-lt-suc 1)) (mod-lt _ (zero-lt-suc 1)))

pub bit-bit_and : (a b k : ℕ) → bit (bit_and a b) k ≡ (bit a k && bit b k)
unfolding bit
bit-bit_and a b k = rw (and_shr a b k, and_mod (a / 2 ^ k) (b / 2 ^ k) 1) (digit_and (a / 2 ^ k % 2) (b / 2 ^ k % 2) (mod-lt _ (zero-lt-suc 1)) (mod-lt _ (zero-lt-suc 1)))

-- digit k + 1 of a number is digit k of its half
pub bit-suc : (a k : ℕ) → bit a (suc k) ≡ bit (a / 2) k
unfolding bit
bit-suc a k = rw (pow-succ' 2 k, div-div-eq-div-mul a 2 (2 ^ k))

bit_not_low : (n a : ℕ) → a < 2 ^ n + 2 ^ n → bit (2 ^ suc n - 1 - a) 0 ≡ not (bit a 0)
unfolding bit
bit_not_low n a h = digit_not ((2 ^ suc n - 1 - a) / 2 ^ 0 % 2) (a / 2 ^ 0 % 2) (omega (arith, two-pow-succ n))

-- the complement in n digits has the opposite digits
pub bit_not : (n a k : ℕ) → a < 2 ^ n → k < n → bit (2 ^ n - 1 - a) k ≡ not (bit a k)
bit_not zero a k h l = absurd (omega arith)
bit_not (suc n) a zero h l = bit_not_low n a (omega (arith, two-pow-succ n))
bit_not (suc n) a (suc k) h l =
    let half : (2 ^ suc n - 1 - a) / 2 ≡ 2 ^ n - 1 - a / 2 = omega (arith, two-pow-succ n) in
    bit-suc (2 ^ suc n - 1 - a) k
    ∙ ap (λ x. bit x k) half
    ∙ bit_not n (a / 2) k (omega (arith, two-pow-succ n)) (le_of_suc-le-suc l)
    ∙ ap not (sym (bit-suc a k))
