-- One slot put in or taken out: `inserted` and `removed`, slot by slot.
use Rattle.std.specs.Prelude.{◌≡◌, Bool, false, not, ◌&&◌, ◌||◌, List, ℕ, ◌-◌, ◌*◌, ◌/◌, ◌%◌, ◌^◌, ◌<◌, length, get_or, set}
use Rattle.std.proofs.Common.{sym, ◌∙◌, ap, mod-lt, zero-lt-suc, one-mul, mod-eq_of_lt, arith, get_or-set_same, get_or-set_other}
use Rattle.std.proofs.Math.Bool.{and-true, or-false}
use Rattle.std.proofs.Math.Pow.{pow-lt}
use Rattle.finite.specs.Tests.{bit, same}
use Rattle.finite.proofs.Laws.Bits.{bit-bit_or, bit-bit_and, bit_not}
use Rattle.finite.proofs.Laws.Weights.{bit-weight}
use Rattle.finite.proofs.Laws.Bools.{either, both}
use Rattle.finite.proofs.Laws.Below.{equal?, same_eq, eq_same, ne_same}
use Rattle.bitset.specs.Set.{has, inserted, removed}

-- the weight of a slot, as the code computes it
pub weight : (s : ℕ) → (1 * 2 ^ (s % 8)) % 256 ≡ 2 ^ (s % 8)
weight s = rw one-mul (mod-eq_of_lt (pow-lt (mod-lt s (zero-lt-suc 7))))

-- the byte of slot s becomes v, which is g of what it was and the slot's weight
slot_set : (g : Bool → Bool → Bool) → ((b : Bool) → g b false ≡ b) → (S : List ℕ) (s v t : ℕ) → s / 8 < length S
    → ((k : ℕ) → k < 8 → bit v k ≡ g (bit (get_or S (s / 8) 0) k) (bit (2 ^ (s % 8)) k))
    → has (set S (s / 8) v) t ≡ g (has S t) (same t s)
unfolding has
slot_set g keep S s v t h law =
    either
    (equal? (t / 8) (s / 8))
    (λ e. rw (e, get_or-set_same S (s / 8) v 0 h, law (t % 8) (omega arith), bit-weight (s % 8) (t % 8), slot e))
    (λ n. rw (get_or-set_other S (s / 8) (t / 8) v 0 n, ne_same (λ q. n (ap (λ (x : ℕ). x / 8) q))) (sym (keep (bit (get_or S (t / 8) 0) (t % 8)))))
  where
    slot : t / 8 ≡ s / 8 → same (s % 8) (t % 8) ≡ same t s
    slot e = both (λ p. let q = same_eq p in eq_same (omega arith)) (λ p. let q = same_eq p in eq_same (omega arith))

pub has-inserted : (S : List ℕ) (s t : ℕ) → s / 8 < length S → has (inserted S s) t ≡ (has S t || same t s)
unfolding inserted
has-inserted S s t h = slot_set ◌||◌ or-false S s _ t h (λ k l. bit-bit_or (get_or S (s / 8) 0) (2 ^ (s % 8)) k)

pub has-removed : (S : List ℕ) (s t : ℕ) → s / 8 < length S → has (removed S s) t ≡ (has S t && not (same t s))
unfolding removed
has-removed S s t h =
    slot_set (λ a b. a && not b) and-true S s _ t h (λ k l.
    bit-bit_and (get_or S (s / 8) 0) (255 - 2 ^ (s % 8)) k
    ∙ ap (λ (b : Bool). bit (get_or S (s / 8) 0) k && b) (bit_not 8 (2 ^ (s % 8)) k (pow-lt (mod-lt s (zero-lt-suc 7))) l))

-- a byte that the slot is not in is as it was
pub byte_inserted : (S : List ℕ) (s j : ℕ) → (j ≡ s / 8 → ⊥) → get_or (inserted S s) j 0 ≡ get_or S j 0
unfolding inserted
byte_inserted S s j h = get_or-set_other S (s / 8) j _ 0 h

pub byte_removed : (S : List ℕ) (s j : ℕ) → (j ≡ s / 8 → ⊥) → get_or (removed S s) j 0 ≡ get_or S j 0
unfolding removed
byte_removed S s j h = get_or-set_other S (s / 8) j _ 0 h
