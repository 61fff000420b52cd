-- Bytes in hexadecimal, one after another.
use Rattle.std.specs.Prelude.{◌≡◌, refl, Bool, true, false, cond, if◌then◌else◌, nat_lt, List, [], ◌∷◌, ◌++◌, ℕ, ◌+◌, ◌/◌, ◌%◌, ◌<◌, length, get_or, take}
use Rattle.std.specs.Fmt.{digit_glyph}
use Rattle.std.proofs.Common.{sym, ap, add-one, take-suc}
use Rattle.io.specs.Digits.{hex_digit_ascii}
use Rattle.job_text.specs.Text.{hexadecimal}

pub snoc_hexadecimal : (xs : List ℕ) (x : ℕ) → hexadecimal (xs ++ (x ∷ [])) ≡ hexadecimal xs ++ (hex_digit_ascii (x / 16) ∷ hex_digit_ascii (x % 16) ∷ [])
unfolding hexadecimal
snoc_hexadecimal [] x = refl
snoc_hexadecimal (y ∷ ys) x = ap (λ (l : List ℕ). hex_digit_ascii (y / 16) ∷ hex_digit_ascii (y % 16) ∷ l) (snoc_hexadecimal ys x)

-- the digit that `{:x}` writes
glyph_is : (d : ℕ) → digit_glyph false d ≡ hex_digit_ascii d
glyph_is d = go (nat_lt d 10)
  where
    go : (b : Bool) → (if b then 48 + d else 87 + d) ≡ cond b (48 + d) (87 + d)
    go true = refl
    go false = refl

-- one byte more
pub hex_more : (bytes : List ℕ) (k : ℕ) → k < length bytes
    → hexadecimal (take k bytes) ++ (digit_glyph false (get_or bytes k 0 / 16) ∷ digit_glyph false (get_or bytes k 0 % 16) ∷ [])
    ≡ hexadecimal (take (k + 1) bytes)
hex_more bytes k h =
    rw (glyph_is (get_or bytes k 0 / 16), glyph_is (get_or bytes k 0 % 16), add-one, take-suc bytes k 0 h)
    (sym (snoc_hexadecimal (take k bytes) (get_or bytes k 0)))
