-- Loops that go up over the bytes or the words of two sets and test their slots at once.
use Rattle.std.specs.Prelude.{◌≡◌, Bool, not, ◌&&◌, ◌||◌, List, ℕ, zero, suc, ◌+◌, ◌-◌, ◌*◌, ◌^◌, ◌<◌, eqb, drop, refl}
use Rattle.std.proofs.Common.{sym, ◌∙◌, ap, arith, ne_eqb}
use Rattle.std.specs.Int.Bits.{bit_and, bit_or, and_lt, or_zero_l, or_add_and}
use Rattle.std.proofs.lemmas.Nat.{and_le_l, and_le_r}
use Rattle.finite.specs.Tests.{bit, any, all}
use Rattle.finite.specs.Bytes.{Bytes}
use Rattle.finite.proofs.Laws.Bits.{bit-bit_and, bit_not}
use Rattle.finite.proofs.Laws.Below.{equal?, all_in, all_out, all_cong}
use Rattle.finite.proofs.Laws.Bools.{either, no_true, not_out, imp_and}
use Rattle.finite.proofs.Laws.Weights.{bit-zero, no_bits}
use Rattle.finite.proofs.Laws.Dual.{any-all}
use Rattle.finite.proofs.Laws.Loops.{all_add}
use Rattle.bitset.specs.Set.{has}
use Rattle.words.specs.Word.{word}
use Rattle.words.proofs.Laws.Bytes.{drop-bytes, word_lt}
use Rattle.bitset.proofs.Laws.Words.{has_word}

-- a number of n binary digits is 0 where it has none
zero_bits : (n v : ℕ) → v < 2 ^ n → eqb v 0 ≡ all n (λ k. not (bit v k))
zero_bits n v h =
    either
    (equal? v 0)
    (λ e. rw e (sym (all_in n (λ k. not (bit 0 k)) (λ k l. ap not (bit-zero k)))))
    (λ ne. ne_eqb v 0 ne ∙ sym (no_true (λ p. ne (no_bits n v h (λ k l. no_true (not_out (bit v k) (all_out n (λ j. not (bit v j)) p k l)))))))

-- a union is 0 where both are
pub or_none : (v w : ℕ) → bit_or v w ≡ 0 → (v ≡ 0) × (w ≡ 0)
or_none v w e = (omega (arith, or_add_and v w, and_le_l v w, and_le_r v w), omega (arith, or_add_and v w, and_le_l v w, and_le_r v w))

or_zero : (v w : ℕ) → eqb (bit_or v w) 0 ≡ (eqb v 0 && eqb w 0)
or_zero zero w = rw (or_zero_l w)
or_zero (suc n) w = rw (ne_eqb (suc n) 0 (λ e. omega arith)) (ne_eqb (bit_or (suc n) w) 0 (λ e. let z = (or_none (suc n) w e).0 in omega arith))

-- the slots of the first i bytes pass where v is 0
pub record Tested (p : ℕ → Bool) (i v : ℕ) : Type 0 where
  pub passed : all (i * 8) p ≡ eqb v 0

module _ (p : ℕ → Bool) where
  pub test_none : Tested p 0 0
  unfolding all
  test_none = record { passed = refl }

  -- those of the next m bytes pass where w is 0
  test_more : (m i j v w : ℕ) → j ≡ i + m → w < 2 ^ (m * 8) → ((k : ℕ) → k < m * 8 → p (i * 8 + k) ≡ not (bit w k)) → Tested p i v → Tested p j (bit_or v w)
  test_more m i j v w e hw law t = record {
    passed = rw (let q : j * 8 ≡ i * 8 + m * 8 = omega arith in q, all_add (i * 8) (m * 8) p, t.passed, here, or_zero v w);
  }
    where
      here : all (m * 8) (λ k. p (i * 8 + k)) ≡ eqb w 0
      here = all_cong (m * 8) (λ k. p (i * 8 + k)) (λ k. not (bit w k)) law ∙ sym (zero_bits (m * 8) w hw)

  pub test_done : (n i v : ℕ) → Tested p i v → n ≡ i * 8 → all n p ≡ eqb v 0
  test_done n i v t e = rw e t.passed

small : (S : List ℕ) (w i : ℕ) → Bytes S → w ≡ word 8 (drop i S) → w < 2 ^ 64
small S w i bs hw = rw hw (word_lt 8 (drop i S) (drop-bytes i S bs))

-- is every slot of A in B? A bit of a & !b says no
pub subset_more : (A B : List ℕ) (i j v : ℕ) {a b : ℕ} → Bytes A → Bytes B → a ≡ word 8 (drop i A) → b ≡ word 8 (drop i B) → j ≡ i + 8
    → Tested (λ s. not (has A s) || has B s) i v → Tested (λ s. not (has A s) || has B s) j (bit_or v (bit_and a (2 ^ 64 - 1 - b)))
subset_more A B i j v {a} {b} ba bb ha hb e =
    test_more (λ s. not (has A s) || has B s) 8 i j v (bit_and a (2 ^ 64 - 1 - b)) e (and_lt 64 a (2 ^ 64 - 1 - b) (small A a i ba ha) (omega arith)) (λ k hk.
    rw (has_word A i k ba hk, has_word B i k bb hk, ← ha, ← hb, bit-bit_and a (2 ^ 64 - 1 - b) k, bit_not 64 b k (small B b i bb hb) hk)
    (imp_and (bit a k) (bit b k)))

-- is some slot in both? A bit of a & b says yes
pub meets_more : (A B : List ℕ) (i j v : ℕ) {a b : ℕ} → Bytes A → Bytes B → a ≡ word 8 (drop i A) → b ≡ word 8 (drop i B) → j ≡ i + 8
    → Tested (λ s. not (has A s && has B s)) i v → Tested (λ s. not (has A s && has B s)) j (bit_or v (bit_and a b))
meets_more A B i j v {a} {b} ba bb ha hb e =
    test_more (λ s. not (has A s && has B s)) 8 i j v (bit_and a b) e (and_lt 64 a b (small A a i ba ha) (small B b i bb hb)) (λ k hk.
    rw (has_word A i k ba hk, has_word B i k bb hk, ← ha, ← hb, bit-bit_and a b k) refl)

pub meets_done : (A B : List ℕ) (n i v : ℕ) → Tested (λ s. not (has A s && has B s)) i v → n ≡ i * 8 → any n (λ s. has A s && has B s) ≡ not (eqb v 0)
meets_done A B n i v t e = any-all n (λ s. has A s && has B s) ∙ ap not (test_done (λ s. not (has A s && has B s)) n i v t e)
