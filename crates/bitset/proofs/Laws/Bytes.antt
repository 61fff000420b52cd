-- Slots and the bytes they stand in: a byte's eight slots, the empty and the full set, and that slots tell the bytes.
use Rattle.std.specs.Prelude.{◌≡◌, Bool, true, false, cond, List, ℕ, ◌+◌, ◌*◌, ◌/◌, ◌%◌, ◌<◌, length, get_or, replicate}
use Rattle.std.proofs.Common.{sym, ◌∙◌, ap₂, arith, ext_get_or}
use Rattle.std.specs.Bool.{beq}
use Rattle.std.proofs.lemmas.List.{length-replicate, get_or-replicate}
use Rattle.std.proofs.Math.ListN.{get_or-eq_default}
use Rattle.finite.specs.Tests.{bit, below}
use Rattle.finite.proofs.Laws.Bits.{all-below}
use Rattle.finite.proofs.Laws.Below.{pass, below_out, not-below}
use Rattle.finite.proofs.Laws.Bools.{beq-true, either, look}
use Rattle.finite.proofs.Laws.Weights.{bit-zero, same_bits}
use Rattle.bitset.specs.Set.{set_bytes, has, Is}

-- slot i * 8 + k is bit k of byte i
pub has_byte : (S : List ℕ) (i k : ℕ) → k < 8 → has S (i * 8 + k) ≡ bit (get_or S i 0) k
unfolding has
has_byte S i k h = ap₂ (λ (x y : ℕ). bit (get_or S x 0) y) (omega arith) (omega arith)

-- a set of like bytes
has_like : (v : ℕ) (b : Bool) → ((k : ℕ) → k < 8 → bit v k ≡ b) → Is (replicate set_bytes v) (λ s. b)
unfolding has
has_like v b law s h = rw (get_or-replicate {A = ℕ} set_bytes (s / 8) v 0 (omega arith)) (law (s % 8) (omega arith))

pub has_empty : Is (replicate set_bytes 0) (λ s. false)
has_empty = has_like 0 false (λ k h. bit-zero k)

pub has-full : Is (replicate set_bytes 255) (λ s. true)
unfolding bit
has-full = has_like 255 true (λ k h. beq-true _ _ (pass _ (all-below (λ j. beq (bit 255 j) true) 8 tt k h)))

like_small : (v : ℕ) → v < 256 → (k : ℕ) → get_or (replicate set_bytes v) k 0 < 256
like_small v h k =
    either
    (look (below k set_bytes))
    (λ q. rw (get_or-replicate {A = ℕ} set_bytes k v 0 (below_out k set_bytes q)) h)
    (λ q. let e = get_or-eq_default (replicate set_bytes v) 0 {n = k} (omega (arith, not-below k set_bytes q, length-replicate {A = ℕ} set_bytes v)) in omega arith)

-- equal slots, equal bytes
pub same-slots : (n : ℕ) (A B : List ℕ) → length A ≡ n → length B ≡ n → ((k : ℕ) → get_or A k 0 < 256) → ((k : ℕ) → get_or B k 0 < 256)
    → ((s : ℕ) → s < n * 8 → has A s ≡ has B s) → A ≡ B
same-slots n A B la lb ha hb h =
    ext_get_or 0 A B (la ∙ sym lb) (λ i l. same_bits 8 (get_or A i 0) (get_or B i 0) (ha i) (hb i) (λ k lk.
    sym (has_byte A i k lk) ∙ h (i * 8 + k) (omega arith) ∙ has_byte B i k lk))

like_set : (v : ℕ) {b : Bool} → v < 256 → Is (replicate set_bytes v) (λ s. b) → (A : List ℕ) → length A ≡ set_bytes → ((k : ℕ) → get_or A k 0 < 256)
    → Is A (λ s. b) → A ≡ replicate set_bytes v
like_set v small law A l h i = same-slots set_bytes A (replicate set_bytes v) l (length-replicate {A = ℕ} set_bytes v) h (like_small v small) (λ s k. i s k ∙ sym (law s k))

-- a set whose slots are all in it, or all out of it
pub like_bytes : (b : Bool) (A : List ℕ) → length A ≡ set_bytes → ((k : ℕ) → get_or A k 0 < 256) → Is A (λ s. b) → A ≡ replicate set_bytes (cond b 255 0)
like_bytes true = like_set 255 (omega arith) has-full
like_bytes false = like_set 0 (omega arith) has_empty
