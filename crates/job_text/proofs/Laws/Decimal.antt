-- A number in decimal: how many digits it takes, and that `{}` writes them.
use Rattle.std.specs.Prelude.{◌≡◌, refl, Bool, false, cond, List, [], ◌∷◌, ◌++◌, ℕ, zero, suc, ◌+◌, ◌-◌, ◌/◌, ◌%◌, ◌^◌, ◌≤◌, ◌<◌, length}
use Rattle.std.proofs.Common.{sym, ◌∙◌, ap, le_trans, arith, length-append}
use Rattle.std.proofs.Math.Nat.{pow-le-pow_right}
use Rattle.finite.specs.Tests.{below, any}
use Rattle.finite.proofs.Laws.Bools.{either, look}
use Rattle.finite.proofs.Laws.Below.{below_in, below_out, below-not, not-below, none_any}
use Rattle.finite.proofs.Laws.First.{first_is, first-none, first_in, first_stop}
use Rattle.io.specs.Digits.{hex_digit_ascii, last_digits, IsDigitCount}
use Rattle.std.specs.Fmt as std
use Rattle.std.proofs.lemmas.Fmt.{decimal_by_steps}
use Rattle.job_text.specs.Text.{digit_count, decimal}

pub length_digits : (b k n : ℕ) → length (last_digits b k n) ≡ k
length_digits b zero n = refl
length_digits b (suc k) n = length-append (last_digits b k (n / b)) (hex_digit_ascii (n % b) ∷ []) ∙ omega (arith, length_digits b k (n / b))

-- k + 1 digits hold n
abbrev holds : ℕ → ℕ → Bool
holds n k = below n (10 ^ suc k)

-- fewer than the fewest do not
none_fewer : (n j : ℕ) → IsDigitCount 10 1 n (suc j) → any j (holds n) ≡ false
none_fewer n j f =
    none_any j (holds n)
    (λ i h.
    let g : 1 < suc j = omega arith in
    let e : suc j - 1 ≡ j = omega arith in
    below-not n (10 ^ suc i) (le_trans (pow-le-pow_right (omega arith) h) (rw e at (f.2 g))))

-- a number that takes at most 20 digits takes so many
pub digit_count_is : (n k : ℕ) → IsDigitCount 10 1 n k → k ≤ 20 → k ≡ digit_count n
unfolding digit_count
digit_count_is n zero f h = absurd (omega (arith, f.0))
digit_count_is n (suc j) f h =
    either (look (below j 19))
    (λ e. ap suc (sym (first_is 19 (holds n) j (below_out j 19 e) (none_fewer n j f) (below_in n (10 ^ suc j) f.1))))
    (λ e. ap suc (sym (first_stop 19 (holds n) j (none_fewer n j f) (omega arith) (not-below j 19 e))))

pub digit_count_few : (n : ℕ) → digit_count n ≤ 20
unfolding digit_count
digit_count_few n =
    either (look (any 19 (holds n)))
    (λ e. omega (arith, (first_in 19 (holds n) e).0))
    (λ e. omega (arith, first-none 19 (holds n) e))

pub decimal_short : (n : ℕ) → length (decimal n) ≤ 20
unfolding decimal
decimal_short n = omega (arith, length_digits 10 (digit_count n) n, digit_count_few n)

-- a word of the machine takes at most 20
pub few : (n k : ℕ) → IsDigitCount 10 1 n k → n < 18446744073709551616 → k ≤ 20
few n k f h =
    either (look (below 20 k))
    (λ e.
    let g : 20 < k = below_out 20 k e in
    let l : 20 ≤ k - 1 = omega arith in
    let m : 10 ^ 20 ≤ 10 ^ (k - 1) = pow-le-pow_right (omega arith) l in
    let t : 10 ^ 20 ≡ 100000000000000000000 = refl in
    absurd (omega (arith, m, t, h, f.2 (omega arith))))
    (λ e. not-below 20 k e)

pub glyph_low : (d : ℕ) → d < 10 → 48 + d ≡ hex_digit_ascii d
unfolding below
glyph_low d h = ap (λ (b : Bool). cond b (48 + d) (87 + d)) (sym (below_in d 10 h))

pub glyph_high : (d : ℕ) → 10 ≤ d → 87 + d ≡ hex_digit_ascii d
unfolding below
glyph_high d h = ap (λ (b : Bool). cond b (48 + d) (87 + d)) (sym (below-not d 10 h))

pub glyph : (d : ℕ) → d < 10 → hex_digit_ascii d ≡ 48 + d
unfolding below
glyph d h = ap (λ (b : Bool). cond b (48 + d) (87 + d)) (below_in d 10 h)

-- one digit more
counts_more : (n j : ℕ) → 10 ≤ n → IsDigitCount 10 1 (n / 10) j → IsDigitCount 10 1 n (suc j)
counts_more n zero h f = absurd (omega (arith, f.0))
counts_more n (suc zero) h f = (omega arith, omega (arith, f.1), λ g. omega arith)
counts_more n (suc (suc j)) h f =
    let d : suc (suc j) - 1 ≡ suc j = omega arith in
    let e : suc (suc (suc j)) - 1 ≡ suc (suc j) = omega arith in
    let l : 10 ^ suc j ≤ n / 10 = rw d at (f.2 (omega arith)) in
    (omega arith, omega (arith, f.1), λ g. rw e (omega (arith, l)))

-- what `{}` writes is the decimal of the definition
digits_of : (n : ℕ) → n < 2 ^ 64 → IsDigitCount 10 1 n (length (std.decimal n)) × (last_digits 10 (length (std.decimal n)) n ≡ std.decimal n)
digits_of = decimal_by_steps (λ n ds. IsDigitCount 10 1 n (length ds) × (last_digits 10 (length ds) n ≡ ds)) one more
  where
    one : (n : ℕ) → n < 10 → IsDigitCount 10 1 n 1 × (last_digits 10 1 n ≡ (48 + n) ∷ [])
    one n h =
        let e : n % 10 ≡ n = omega arith in
        ((omega arith, omega arith, λ g. absurd (omega arith)), rw (e, glyph n h))

    more : (n : ℕ) (ds : List ℕ) → 10 ≤ n → IsDigitCount 10 1 (n / 10) (length ds) × (last_digits 10 (length ds) (n / 10) ≡ ds)
        → IsDigitCount 10 1 n (length (ds ++ ((48 + n % 10) ∷ []))) × (last_digits 10 (length (ds ++ ((48 + n % 10) ∷ []))) n ≡ ds ++ ((48 + n % 10) ∷ []))
    more n ds h k =
        let e : length (ds ++ ((48 + n % 10) ∷ [])) ≡ suc (length ds) = length-append ds ((48 + n % 10) ∷ []) ∙ omega arith in
        rw e (counts_more n (length ds) h k.0, rw (k.1, glyph (n % 10) (omega arith)))

pub decimal_is : (n : ℕ) → n < 2 ^ 64 → std.decimal n ≡ decimal n
unfolding decimal
decimal_is n h =
    let k = length (std.decimal n) in
    let d = digits_of n h in
    let e : k ≡ digit_count n = digit_count_is n k d.0 (few n k d.0 (omega arith)) in
    sym d.1 ∙ ap (λ (j : ℕ). last_digits 10 j n) e
