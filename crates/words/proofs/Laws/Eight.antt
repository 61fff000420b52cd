-- A word's union, meet and complement are those of its eight bytes, low byte first; two words are equal exactly when all eight bytes are.
use Rattle.std.specs.Prelude.{◌≡◌, refl, List, ◌∷◌, ℕ, zero, suc, ◌+◌, ◌-◌, ◌*◌, ◌/◌, ◌%◌, ◌^◌, ◌<◌}
use Rattle.std.proofs.Common.{sym, ap, ap₂, ◌∙◌, div-add-mod', arith}
use Rattle.std.proofs.Math.Arith.{digits_div, digits_mod}
use Rattle.std.specs.Int.Bits.{bit_and, bit_or, and_lt}
use Rattle.std.proofs.lemmas.Nat.{and_block, or_block, or_lt}
use Rattle.words.specs.Word.{word, bytes, pairwise}
use Rattle.words.proofs.Laws.Bytes.{word_of_bytes}
use Rattle.words.specs.Eight.{Eight}

-- F n works on numbers of n bytes as F 1 does on each byte
record Bytewise (F : ℕ → ℕ → ℕ → ℕ) : Type 0 where
  block : (n a b x y : ℕ) → a < 256 ^ n → b < 256 ^ n → x < 256 → y < 256 → F (suc n) (a * 256 + x) (b * 256 + y) ≡ F n a b * 256 + F 1 x y
  byte : (x y : ℕ) → x < 256 → y < 256 → F 1 x y < 256

by_bytes : (F : ℕ → ℕ → ℕ → ℕ) → Bytewise F → (n w v : ℕ) → w < 256 ^ n → v < 256 ^ n → bytes n (F n w v) ≡ pairwise (F 1) (bytes n w) (bytes n v)
unfolding bytes pairwise
by_bytes F B zero w v hw hv = refl
by_bytes F B (suc n) w v hw hv =
    let hw' : w / 256 < 256 ^ n = omega arith in
    let hv' : v / 256 < 256 ^ n = omega arith in
    let hx : w % 256 < 256 = omega arith in
    let hy : v % 256 < 256 = omega arith in
    let z = F 1 (w % 256) (v % 256) in
    let hz : z < 256 = B.byte (w % 256) (v % 256) hx hy in
    let split : F (suc n) w v ≡ F n (w / 256) (v / 256) * 256 + z
    = ap₂ (F (suc n)) (sym (div-add-mod' w 256)) (sym (div-add-mod' v 256)) ∙ B.block n (w / 256) (v / 256) (w % 256) (v % 256) hw' hv' hx hy in
    rw (split, digits_mod (F n (w / 256) (v / 256)) hz, digits_div (F n (w / 256) (v / 256)) hz)
    (ap (λ (r : List ℕ). z ∷ r) (by_bytes F B n (w / 256) (v / 256) hw' hv'))

union_bytewise : Bytewise (λ n. bit_or)
union_bytewise = record { block = λ n a b x y ha hb. or_block 8 a b x y; byte = or_lt 8 }

meet_bytewise : Bytewise (λ n. bit_and)
meet_bytewise = record { block = λ n a b x y ha hb. and_block 8 a b x y; byte = and_lt 8 }

-- a complement has one operand; the second is not looked at
complement_bytewise : Bytewise (λ n a b. 256 ^ n - 1 - a)
complement_bytewise = record { block = λ n a b x y ha hb hx hy. omega arith; byte = λ x y hx hy. omega arith }

pub eight : (w v : ℕ) → w < 2 ^ 64 → v < 2 ^ 64 → Eight w v
eight w v hw hv = record {
  union = by_bytes (λ n. bit_or) union_bytewise 8 w v hw hv;
  meet = by_bytes (λ n. bit_and) meet_bytewise 8 w v hw hv;
  complement = by_bytes (λ n a b. 256 ^ n - 1 - a) complement_bytewise 8 w v hw hv;
  equal = (ap (bytes 8), λ e. sym (word_of_bytes 8 w hw) ∙ ap (word 8) e ∙ word_of_bytes 8 v hv);
}
