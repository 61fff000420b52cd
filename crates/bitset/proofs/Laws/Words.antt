-- Sets a word at a time: eight bytes are written, compared or counted at once.
use Rattle.std.specs.Prelude.{◌≡◌, refl, ◌≢◌, Bool, true, false, not, ◌&&◌, ◌||◌, List, [], ◌∷◌, ℕ, zero, suc, ◌+◌, ◌-◌, ◌*◌, ◌^◌, ◌≤◌, ◌<◌, length, get_or, drop}
use Rattle.std.proofs.Common.{sym, ◌∙◌, ap, ap₂, subst, add-zero, add-suc, suc-add, le_of_suc-le-suc, arith, drop-cons}
use Rattle.std.specs.Int.Bits.{bit_and, bit_or}
use Rattle.std.specs.Int.Count.{ones, count_trailing_zeros}
use Rattle.std.proofs.lemmas.Nat.{ones_cat, ones-le}
use Rattle.finite.specs.Tests.{bit, any, first, count}
use Rattle.finite.specs.Tests as tests
use Rattle.finite.specs.Bytes.{Bytes}
use Rattle.finite.proofs.Laws.Bits.{bit-bit_or, bit-bit_and, bit_not}
use Rattle.finite.proofs.Laws.Weights.{bit-zero}
use Rattle.finite.proofs.Laws.Bools.{either, look}
use Rattle.finite.proofs.Laws.Below.{same_refl, below_out, not-below, any_none, none_any}
use Rattle.finite.proofs.Laws.First.{first_is}
use Rattle.finite.proofs.Laws.Count.{count_le}
use Rattle.words.specs.Word.{word, bytes, pairwise}
use Rattle.words.proofs.Laws.Bytes.{drop-bytes, word_lt}
use Rattle.words.proofs.Laws.Eight.{eight}
use Rattle.words.proofs.Laws.Bits.{word_bits_lem}
use Rattle.words.proofs.Laws.Lowest.{lowest, none_lower}
use Rattle.bitset.specs.Set.{has}
use Rattle.bitset.proofs.Laws.Count.{count_byte}

ones-zero : ones 0 ≡ 0
unfolding ones
ones-zero = refl

pub pair_at : (f : ℕ → ℕ → ℕ) (a b : List ℕ) (k : ℕ) → k < length a → k < length b → get_or (pairwise f a b) k 0 ≡ f (get_or a k 0) (get_or b k 0)
unfolding pairwise
pair_at f [] b k ha hb = absurd (omega arith)
pair_at f (x ∷ a) [] k ha hb = absurd (omega arith)
pair_at f (x ∷ a) (y ∷ b) zero ha hb = refl
pair_at f (x ∷ a) (y ∷ b) (suc k) ha hb = pair_at f a b k (le_of_suc-le-suc ha) (le_of_suc-le-suc hb)

-- F of two words is f of each pair of their bytes, and g of each pair of their slots
pub record Slotwise (g : Bool → Bool → Bool) (F : ℕ → ℕ → ℕ) : Type 0 where
  pub f : ℕ → ℕ → ℕ
  pub of_bytes : (w v : ℕ) → w < 2 ^ 64 → v < 2 ^ 64 → bytes 8 (F w v) ≡ pairwise f (bytes 8 w) (bytes 8 v)
  pub of_bits : (x y k : ℕ) → x < 256 → k < 8 → bit (f x y) k ≡ g (bit x k) (bit y k)

pub union_slots : Slotwise ◌||◌ bit_or
union_slots = record { f = bit_or; of_bytes = λ w v hw hv. (eight w v hw hv).union; of_bits = λ x y k hx hk. bit-bit_or x y k }

pub meet_slots : Slotwise ◌&&◌ bit_and
meet_slots = record { f = bit_and; of_bytes = λ w v hw hv. (eight w v hw hv).meet; of_bits = λ x y k hx hk. bit-bit_and x y k }

-- the second operand is not looked at
pub complement_slots : Slotwise (λ x y. not x) (λ w v. 2 ^ 64 - 1 - w)
complement_slots = record { f = λ x y. 255 - x; of_bytes = λ w v hw hv. (eight w v hw hv).complement; of_bits = λ x y k hx hk. bit_not 8 x k hx hk }

-- the slots of a word
pub has_word : (S : List ℕ) (i k : ℕ) → Bytes S → k < 64 → has S (i * 8 + k) ≡ bit (word 8 (drop i S)) k
unfolding has
has_word S i k b h = sym (word_bits_lem 8 S i k b h ∙ ap₂ (λ (x y : ℕ). bit (get_or S x 0) y) (omega arith) (omega arith))

-- the ones of a word are those of its bytes
count-bytes : (n i : ℕ) (S : List ℕ) → i + n ≤ length S → Bytes S → count ((i + n) * 8) (has S) ≡ count (i * 8) (has S) + ones (word n (drop i S))
unfolding word
count-bytes zero i S h b = rw (add-zero i, ones-zero) (omega arith)
count-bytes (suc n) i S h b =
    let rest : count ((i + suc n) * 8) (has S) ≡ count (i * 8 + 8) (has S) + ones (word n (drop (suc i) S))
    = rw (add-suc i n, ← (suc-add i n), (let q : i * 8 + 8 ≡ suc i * 8 = omega arith in q)) (count-bytes n (suc i) S (omega arith) b) in
    rw (drop-cons S i 0 (omega arith), ones_cat 8 (word n (drop (suc i) S)) (get_or S i 0) (b i)) (omega (arith, rest, count_byte S i (b i)))

module _ (S : List ℕ) (i n : ℕ) {w : ℕ} (b : Bytes S) (fits : i + 8 ≤ length S) (so_far : n ≡ count (i * 8) (has S)) (here : w ≡ word 8 (drop i S)) where
  pub count_word : (j : ℕ) → j ≡ i + 8 → n + ones w ≡ count (j * 8) (has S)
  count_word j e = rw (e, so_far, here) (sym (count-bytes 8 i S fits b))

  -- the sum of the code fits
  pub count_fits : i * 8 + 64 < 2 ^ 32 → n + ones w < 2 ^ 32
  count_fits h = rw here (omega (arith, count_le (i * 8) (has S), ones-le 64 (word 8 (drop i S)) (word_lt 8 (drop i S) (drop-bytes i S b))))

-- the search for the lowest slot, a word at a time: no slot is in the words before
module _ (S : List ℕ) (i : ℕ) {w : ℕ} (b : Bytes S) (here : w ≡ word 8 (drop i S)) (so_far : any (i * 8) (has S) ≡ false) where
  none_bits : (n : ℕ) → n ≤ 64 → ((k : ℕ) → k < n → bit w k ≡ false) → any (i * 8 + n) (has S) ≡ false
  none_bits n h clear =
      none_any (i * 8 + n) (has S) (λ s l. either
      (look (tests.below s (i * 8)))
      (λ q. any_none (i * 8) (has S) so_far s (below_out s (i * 8) q))
      (λ q.
      let m = not-below s (i * 8) q in
      let at : i * 8 + (s - i * 8) ≡ s = omega arith in
      let k : s - i * 8 < n = omega arith in
      subst (λ (t : ℕ). has S t ≡ false) at
      (has_word S i (s - i * 8) b (omega arith) ∙ ap (λ (v : ℕ). bit v (s - i * 8)) (sym here) ∙ clear (s - i * 8) k)))

  -- nor is one in this word
  pub none-word : w ≡ 0 → (j : ℕ) → j ≡ i + 8 → any (j * 8) (has S) ≡ false
  none-word z j e =
      subst (λ (n : ℕ). any n (has S) ≡ false) (omega arith) (none_bits 64 (omega arith) (λ k _. ap (λ (v : ℕ). bit v k) z ∙ bit-zero k))

  -- one is in this word
  module _ (some : w ≢ 0) where
    low : (count_trailing_zeros 64 w < 64) × (bit w (count_trailing_zeros 64 w) ≡ true)
    low =
        let p = lowest 64 w (rw here (word_lt 8 (drop i S) (drop-bytes i S b))) some in
        (p.0, p.1 (count_trailing_zeros 64 w) ∙ rw (same_refl (count_trailing_zeros 64 w)))

    pub lowest_fits : count_trailing_zeros 64 w < 64
    lowest_fits = low.0

    pub lowest_word : (n : ℕ) → (i + 8) * 8 ≤ n → (r : ℕ) → r ≡ i * 8 + count_trailing_zeros 64 w → r ≡ first n (has S)
    lowest_word n f r e =
        let t = count_trailing_zeros 64 w in
        e ∙ sym (first_is n (has S) (i * 8 + t) (omega (arith, low.0))
        (none_bits t (omega (arith, low.0)) (λ k l. none_lower 64 w k l))
        (has_word S i t b low.0 ∙ ap (λ (v : ℕ). bit v t) (sym here) ∙ low.1))
