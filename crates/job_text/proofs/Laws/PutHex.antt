-- Bytes in hexadecimal, written into a buffer one after another.
use Rattle.std.specs.Prelude.{◌≡◌, refl, List, [], ◌∷◌, ◌++◌, ℕ, ◌+◌, ◌/◌, ◌%◌, ◌≤◌, ◌<◌, length, get_or, take, set}
use Rattle.std.proofs.Common.{sym, ◌∙◌, ap, append_assoc, add-one, arith, take-suc, take_all}
use Rattle.io.specs.Digits.{hex_digit_ascii}
use Rattle.job_text.specs.Text.{hexadecimal}
use Rattle.job_text.specs.Put.{Puts}
use Rattle.job_text.proofs.Laws.Hex.{snoc_hexadecimal}
use Rattle.job_text.proofs.Laws.Put.{puts_none, puts_byte, puts_as, puts_then}

pub length-hexadecimal : (xs : List ℕ) → length (hexadecimal xs) ≡ length xs + length xs
unfolding hexadecimal
length-hexadecimal [] = refl
length-hexadecimal (x ∷ xs) = omega (arith, length-hexadecimal xs)

-- one byte more, of which the two digits are g and h
pub hex_more : {text text' : List ℕ} {a b : ℕ} (bytes : List ℕ) (k g h : ℕ) → Puts text a (hexadecimal (take k bytes)) text' b
    → k < length bytes → b + 1 < length text
    → g ≡ hex_digit_ascii (get_or bytes k 0 / 16) → h ≡ hex_digit_ascii (get_or bytes k 0 % 16)
    → Puts text a (hexadecimal (take (k + 1) bytes)) (set (set text' b g) (b + 1) h) (b + 2)
hex_more {text} {text'} {a} {b} bytes k g h p lt room eg eh =
    puts_as (said k g h lt eg eh) (omega arith) (puts_byte (puts_byte p g (omega arith)) h room)
  where
    said : (k g h : ℕ) → k < length bytes → g ≡ hex_digit_ascii (get_or bytes k 0 / 16) → h ≡ hex_digit_ascii (get_or bytes k 0 % 16)
        → hexadecimal (take k bytes) ++ (g ∷ []) ++ (h ∷ []) ≡ hexadecimal (take (k + 1) bytes)
    said k g h lt eg eh =
        rw (eg, eh, add-one, take-suc bytes k 0 lt)
        (append_assoc (hexadecimal (take k bytes)) (hex_digit_ascii (get_or bytes k 0 / 16) ∷ []) (hex_digit_ascii (get_or bytes k 0 % 16) ∷ [])
        ∙ sym (snoc_hexadecimal (take k bytes) (get_or bytes k 0)))

-- the same, where the two digits are written as one word
pub hex_then : {text text' text'' : List ℕ} {a b c : ℕ} (bytes : List ℕ) (k g h : ℕ) → Puts text a (hexadecimal (take k bytes)) text' b
    → Puts text' b (g ∷ h ∷ []) text'' c → k < length bytes
    → g ≡ hex_digit_ascii (get_or bytes k 0 / 16) → h ≡ hex_digit_ascii (get_or bytes k 0 % 16)
    → Puts text a (hexadecimal (take (k + 1) bytes)) text'' c
hex_then bytes k g h p q lt eg eh =
    puts_as (said k g h lt eg eh) refl (puts_then p q)
  where
    said : (k g h : ℕ) → k < length bytes → g ≡ hex_digit_ascii (get_or bytes k 0 / 16) → h ≡ hex_digit_ascii (get_or bytes k 0 % 16)
        → hexadecimal (take k bytes) ++ (g ∷ h ∷ []) ≡ hexadecimal (take (k + 1) bytes)
    said k g h lt eg eh =
        rw (eg, eh, add-one, take-suc bytes k 0 lt) (sym (snoc_hexadecimal (take k bytes) (get_or bytes k 0)))

-- all of them
pub hex_whole : {text text' : List ℕ} {a b : ℕ} (bytes : List ℕ) (k : ℕ) → Puts text a (hexadecimal (take k bytes)) text' b
    → length bytes ≤ k → Puts text a (hexadecimal bytes) text' b
hex_whole bytes k p h = puts_as (ap hexadecimal (take_all k bytes h)) refl p

-- none yet
pub hex_none : (text bytes : List ℕ) (a : ℕ) → Puts text a (hexadecimal (take 0 bytes)) text a
unfolding hexadecimal
hex_none text bytes a = puts_none text a
