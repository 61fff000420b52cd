-- The bits of words.
use Rattle.std.specs.Prelude.{◌≡◌, refl, Bool, true, false, not, ◌&&◌, ◌||◌, ℕ, ◌+◌, ◌*◌, ◌-◌, ◌/◌, ◌%◌, ◌^◌, ◌<◌}
use Rattle.std.proofs.Common.{sym, ◌∙◌, ap, ap₂, true≢false, one-mul, mod-eq_of_lt, arith, pow-add, pow_pos}
use Rattle.std.proofs.Math.Bool.{and_comm, and-true, or_comm, or-false}
use Rattle.std.proofs.Math.Nat.{div-div-eq-div-mul}
use Rattle.std.specs.Int.Bits.{bit_and, bit_or}
use Rattle.std.proofs.lemmas.Nat.{or_lt, and_mask}
use Rattle.std.proofs.Math.Pow.{pow-lt}
use Rattle.finite.specs.Tests.{same, bit}
use Rattle.finite.proofs.Laws.Bits.{bit-bit_or, bit-bit_and, bit_not}
use Rattle.finite.proofs.Laws.Bools.{either, both}
use Rattle.finite.proofs.Laws.Below.{equal?, same_eq, eq_same, ne_same}
use Rattle.finite.proofs.Laws.Weights.{bit-zero, bit-weight}
use Rattle.limits.specs.Limits.{variables}
use Rattle.semantics.specs.Form.{Form}
use Rattle.even_rule.specs.Masks.{mask_bits, mask_limit, word_bits, full_word, done_word, bit_of, swap, free_bits, Shows}

-- the word of one bit, as the code computes it
pub weight : (v : ℕ) → v < word_bits → (1 * 2 ^ v) % 2 ^ word_bits ≡ 2 ^ v
weight v h = rw one-mul (mod-eq_of_lt (pow-lt h))

-- the bits from bit n on, and those below it
bit_div : (w n v : ℕ) → bit (w / 2 ^ n) v ≡ bit w (n + v)
unfolding bit
bit_div w n v = rw (div-div-eq-div-mul w (2 ^ n) (2 ^ v), pow-add 2 n v)

full : (n v : ℕ) → v < n → bit (2 ^ n - 1) v ≡ true
full n v h = ap (λ (x : ℕ). bit x v) (let e : 2 ^ n - 1 ≡ 2 ^ n - 1 - 0 = omega arith in e) ∙ bit_not n 0 v (pow_pos n) h ∙ ap not (bit-zero v)

bit_mod : (w n v : ℕ) → v < n → bit (w % 2 ^ n) v ≡ bit w v
bit_mod w n v h =
    ap (λ (x : ℕ). bit x v) (sym (and_mask w n))
    ∙ bit-bit_and w (2 ^ n - 1) v
    ∙ ap (λ (b : Bool). bit w v && b) (full n v h)
    ∙ and-true (bit w v)

low : (w v : ℕ) → v < variables → bit (w % mask_limit) v ≡ bit w v
low w v h = bit_mod w mask_bits v h

high : (w v : ℕ) → v < variables → bit (w / mask_limit % mask_limit) v ≡ bit w (mask_bits + v)
high w v h = bit_mod (w / mask_limit) mask_bits v h ∙ bit_div w mask_bits v

pub bit-swap : (w : ℕ) (b : Bool) (v : ℕ) → v < variables → bit (swap w) (bit_of b v) ≡ bit w (bit_of (not b) v)
bit-swap w true v h =
    let e : swap w % mask_limit ≡ w / mask_limit % mask_limit = omega arith in
    sym (low (swap w) v h) ∙ ap (λ (x : ℕ). bit x v) e ∙ high w v h
bit-swap w false v h =
    let e : swap w / mask_limit ≡ w % mask_limit = omega arith in
    sym (bit_div (swap w) mask_bits v) ∙ ap (λ (x : ℕ). bit x v) e ∙ low w v h

pub bit-free : (w v : ℕ) → v < variables → bit (free_bits w) v ≡ (bit w (bit_of true v) || bit w (bit_of false v))
bit-free w v h = bit-bit_or (w % mask_limit) (w / mask_limit % mask_limit) v ∙ ap₂ ◌||◌ (low w v h) (high w v h)

pub free_few : (w : ℕ) → free_bits w < 2 ^ mask_bits
free_few w = or_lt mask_bits (w % mask_limit) (w / mask_limit % mask_limit) (omega arith) (omega arith)

-- bit u is taken out
bit_without : (w u v : ℕ) → u < word_bits → v < word_bits → bit (bit_and w (full_word - 2 ^ u)) v ≡ (not (same u v) && bit w v)
bit_without w u v hu hv =
    bit-bit_and w (full_word - 2 ^ u) v
    ∙ ap (λ (b : Bool). bit w v && b) (bit_not word_bits (2 ^ u) v (pow-lt hu) hv ∙ ap not (bit-weight u v))
    ∙ and_comm (bit w v) (not (same u v))

-- the variable p is in the even mask alone
pub bit-one : (p : ℕ) (b : Bool) (v : ℕ) → p < variables → v < variables → bit (2 ^ p) (bit_of b v) ≡ (b && same p v)
bit-one p true v h l = bit-weight p v
bit-one p false v h l = bit-weight p (mask_bits + v) ∙ ne_same (λ e. omega arith)

same_above : (p v : ℕ) → same (p + mask_bits) (mask_bits + v) ≡ same p v
same_above p v =
    both
    (λ e. let s : p + mask_bits ≡ mask_bits + v = same_eq e in eq_same (let t : p ≡ v = omega arith in t))
    (λ e. let s : p ≡ v = same_eq e in eq_same (let t : p + mask_bits ≡ mask_bits + v = omega arith in t))

-- the variable p is taken out of both masks
pub bit_rid : (w p : ℕ) (b : Bool) (v : ℕ) → p < variables → v < variables
    → bit (bit_and (bit_and w (full_word - 2 ^ p)) (full_word - 2 ^ (p + mask_bits))) (bit_of b v) ≡ (not (same p v) && bit w (bit_of b v))
bit_rid w p true v h l =
    bit_without (bit_and w (full_word - 2 ^ p)) (p + mask_bits) v (omega arith) (omega arith)
    ∙ rw (ne_same {m = p + mask_bits} {n = v} (λ e. omega arith)) (bit_without w p v (omega arith) (omega arith))
bit_rid w p false v h l =
    bit_without (bit_and w (full_word - 2 ^ p)) (p + mask_bits) (mask_bits + v) (omega arith) (omega arith)
    ∙ rw (same_above p v, bit_without w p (mask_bits + v) (omega arith) (omega arith), ne_same {m = p} {n = mask_bits + v} (λ e. omega arith)) refl

below_32 : (b : Bool) (v : ℕ) → v < variables → ◌≡◌ {A = ℕ} 32 (bit_of b v) → ⊥
below_32 true v l e = omega arith
below_32 false v l e = omega arith

-- a node's word once it is done: its masks are as they were, and it is not 0
pub shows_done : {φ : Form} {w : ℕ} → Shows φ w → Shows φ (bit_or w done_word)
shows_done {w = w} s =
    record {
      bits = λ b v l.
          bit-bit_or w done_word (bit_of b v)
          ∙ ap (λ (a : Bool). bit w (bit_of b v) || a) (bit-weight 32 (bit_of b v) ∙ ne_same (below_32 b v l))
          ∙ or-false (bit w (bit_of b v))
          ∙ s.bits b v l;
    }

pub some_done : (w : ℕ) → 0 < bit_or w done_word
some_done w =
    either
    (equal? (bit_or w done_word) 0)
    (λ q.
    let t : true ≡ false =
    sym (or_comm (bit w 32) true)
    ∙ ap (λ (a : Bool). bit w 32 || a) (sym (bit-weight 32 32 ∙ eq_same refl))
    ∙ sym (bit-bit_or w done_word 32)
    ∙ ap (λ (x : ℕ). bit x 32) q
    ∙ bit-zero 32 in
    absurd (true≢false t))
    (λ q. omega arith)
