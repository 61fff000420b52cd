-- Sets as words: each number of a set stands in one word, and what is done to the words is done to the numbers.
use Rattle.std.specs.Prelude.{◌≡◌, refl, Bool, true, false, not, ◌&&◌, ◌||◌, List, [], ◌∷◌, ◌++◌, ℕ, zero, suc, ◌+◌, ◌-◌, ◌*◌, ◌/◌, ◌%◌, ◌^◌, ◌<◌, eqb, length, get_or, set, take, drop, slice_index, replicate, Option, Some, None, IfSome, IsNone, is_some}
use Rattle.std.proofs.Common.{sym, ◌∙◌, ap, ap₂, subst, arith, length-drop, drop-drop, length-take-le, length-set, get_or-set_same, get_or-set_other, length-append, one-mul, mod-eq_of_lt, mod-lt, take-append-drop, append-nil, true≢false}
use Rattle.std.proofs.lemmas.List.{take_at, drop_at, append_assoc, length-replicate, get_or-replicate}
use Rattle.std.proofs.lemmas.List.Edits.{sets-eq}
use Rattle.std.specs.Int.Bits.{bit_and, bit_or, and_lt}
use Rattle.std.proofs.lemmas.Nat.{or_lt}
use Rattle.std.proofs.Math.Pow.{pow-lt}
use Rattle.std.proofs.Math.Bool.{and-true, and-false, or-false}
use Rattle.std.proofs.Math.ListN.{get_or-eq_default}
use Rattle.std.specs.Cmp.Lexicographic.{pointwise}
use Rattle.std.specs.Cmp.Lexicographic.{same_text, other_text}
use lib.Bits.{and_mask}
use Rattle.words.proofs.Laws.Eight.{eight}
use Rattle.finite.specs.Tests.{bit, same, below, any, count, first}
use Rattle.finite.specs.Bytes.{Bytes}
use Rattle.finite.proofs.Laws.Bits.{bit-bit_or, bit-bit_and, bit_not}
use Rattle.finite.proofs.Laws.Weights.{bit-zero, bit-weight}
use Rattle.finite.proofs.Laws.Bools.{either, both, look, no_true, and_l}
use Rattle.finite.proofs.Laws.First.{first-none, first_in}
use Rattle.finite.proofs.Laws.Count.{count_more}
use Rattle.finite.proofs.Laws.Below.{equal?, same_refl, same_eq, eq_same, ne_same, below_out, not-below}
use Rattle.words.specs.Word.{word, bytes, put_at}
use Rattle.words.proofs.Laws.Bytes.{word_lt, word_of_bytes, bytes_of-word, drop-bytes}
use Rattle.words.proofs.Laws.Bits.{byte_bits}
use Rattle.words.proofs.Laws.Library.{length_bytes, word_take}
use Rattle.bitset.specs.Set.{has, Holds}
use Rattle.bitset.specs.Words.{bytes_of, Fit}
use Rattle.bitset.proofs.Laws.Words.{Slotwise, union_slots, meet_slots, complement_slots, has_word, pair_at}

-- the bytes of a number are bytes
pub small_bytes : (n w : ℕ) → Bytes (bytes n w)
unfolding bytes
small_bytes zero w k = omega arith
small_bytes (suc n) w zero = omega arith
small_bytes (suc n) w (suc k) = small_bytes n (w / 256) k

small_append : (xs ys : List ℕ) → Bytes xs → Bytes ys → Bytes (xs ++ ys)
small_append [] ys a b k = b k
small_append (x ∷ xs) ys a b zero = a 0
small_append (x ∷ xs) ys a b (suc k) = small_append xs ys (λ j. a (suc j)) b k

pub small : (ws : List ℕ) → Bytes (bytes_of ws)
unfolding bytes_of
small [] k = omega arith
small (w ∷ ws) k = small_append (bytes 8 w) (bytes_of ws) (small_bytes 8 w) (small ws) k

pub length_bytes_of : (ws : List ℕ) → length (bytes_of ws) ≡ 8 * length ws
unfolding bytes_of
length_bytes_of [] = refl
length_bytes_of (w ∷ ws) = omega (arith, length-append (bytes 8 w) (bytes_of ws), length_bytes 8 w, length_bytes_of ws)

-- word k of the words stands at byte 8 * k
pub word_in : (ws : List ℕ) (k : ℕ) → ((j : ℕ) → slice_index ws j < 2 ^ 64) → k < length ws → slice_index ws k ≡ word 8 (drop (8 * k) (bytes_of ws))
unfolding bytes_of
word_in [] k f l = absurd (omega arith)
word_in (w ∷ ws) zero f l =
    sym (word_of_bytes 8 w (f 0)) ∙ ap (word 8) (sym (take_at (bytes 8 w) (bytes_of ws) 8 (length_bytes 8 w))) ∙ word_take 8 (bytes 8 w ++ bytes_of ws)
word_in (w ∷ ws) (suc k) f l =
    let q : 8 * suc k ≡ 8 * k + 8 = omega arith in
    word_in ws k (λ j. f (suc j)) (omega arith)
    ∙ ap (λ S. word 8 (drop (8 * k) S)) (sym (drop_at (bytes 8 w) (bytes_of ws) 8 (length_bytes 8 w)))
    ∙ ap (word 8) (drop-drop (8 * k) 8 (bytes 8 w ++ bytes_of ws) ∙ ap (λ n. drop n (bytes 8 w ++ bytes_of ws)) (let e : 8 + 8 * k ≡ 8 * suc k = omega arith in e))

-- the words ws of a set that is seen as the bytes S
module _ (n : ℕ) (ws : List ℕ) {S : List ℕ} (f : Fit n ws) (shown : bytes_of ws ≡ S) where
  pub shown_small : Bytes S
  shown_small = subst Bytes shown (small ws)

  pub shown_length : length S ≡ 8 * n
  shown_length = ap length (sym shown) ∙ length_bytes_of ws ∙ ap (λ m. 8 * m) f.size

  pub shown_word : (k : ℕ) → k < n → slice_index ws k ≡ word 8 (drop (8 * k) S)
  shown_word k l = word_in ws k f.word_fits (omega (arith, f.size)) ∙ ap (λ (T : List ℕ). word 8 (drop (8 * k) T)) shown

-- number s is bit s % 64 of word s / 64
pub has_at : (ws : List ℕ) (s : ℕ) → ((j : ℕ) → slice_index ws j < 2 ^ 64) → s < 64 * length ws → has (bytes_of ws) s ≡ bit (slice_index ws (s / 64)) (s % 64)
has_at ws s f l =
    let q : 8 * (s / 64) * 8 + s % 64 ≡ s = omega arith in
    subst (λ n. has (bytes_of ws) n ≡ bit (slice_index ws (s / 64)) (s % 64)) q
    (has_word (bytes_of ws) (8 * (s / 64)) (s % 64) (small ws) (omega arith)
    ∙ ap (λ w. bit w (s % 64)) (sym (word_in ws (s / 64) f (omega arith))))

-- a bit of a word is one of its bytes'
pub word_bit : (w k : ℕ) → w < 2 ^ 64 → k < 64 → bit w k ≡ bit (get_or (bytes 8 w) (k / 8) 0) (k % 8)
word_bit w k h l = ap (λ v. bit v k) (sym (word_of_bytes 8 w h)) ∙ byte_bits 8 (bytes 8 w) k (small_bytes 8 w) l

-- what is done to a word's bytes is done to its bits
pub word_slots : {g : Bool → Bool → Bool} {F : ℕ → ℕ → ℕ} → Slotwise g F → (w v k : ℕ) → w < 2 ^ 64 → v < 2 ^ 64 → F w v < 2 ^ 64 → k < 64 → bit (F w v) k ≡ g (bit w k) (bit v k)
word_slots {g} {F} W w v k hw hv h l =
    let a = bytes 8 w in
    let b = bytes 8 v in
    let i = k / 8 in
    let j = k % 8 in
    let la : i < length a = omega (arith, length_bytes 8 w) in
    let lb : i < length b = omega (arith, length_bytes 8 v) in
    word_bit (F w v) k h l
    ∙ ap (λ S. bit (get_or S i 0) j) (W.of_bytes w v hw hv)
    ∙ ap (λ x. bit x j) (pair_at W.f a b i la lb)
    ∙ W.of_bits (get_or a i 0) (get_or b i 0) j (small_bytes 8 w i) (omega arith)
    ∙ ap₂ g (sym (word_bit w k hw l)) (sym (word_bit v k hv l))

-- the words r are F of the words a and b, and their numbers are g of those of a and b
pub each_word : (g : Bool → Bool → Bool) (F : ℕ → ℕ → ℕ) → ((w v k : ℕ) → w < 2 ^ 64 → v < 2 ^ 64 → k < 64 → bit (F w v) k ≡ g (bit w k) (bit v k))
    → (n : ℕ) (a b r : List ℕ) → Fit n a → Fit n b → Fit n r → ((k : ℕ) → k < n → slice_index r k ≡ F (slice_index a k) (slice_index b k))
    → Holds (64 * n) (bytes_of r) (λ s. g (has (bytes_of a) s) (has (bytes_of b) s))
each_word g F law n a b r fa fb fr h s l =
    let q : s / 64 < n = omega arith in
    let la : s < 64 * length a = omega (arith, fa.size) in
    let lb : s < 64 * length b = omega (arith, fb.size) in
    let lr : s < 64 * length r = omega (arith, fr.size) in
    has_at r s fr.word_fits lr
    ∙ ap (λ w. bit w (s % 64)) (h (s / 64) q)
    ∙ law (slice_index a (s / 64)) (slice_index b (s / 64)) (s % 64) (fa.word_fits (s / 64)) (fb.word_fits (s / 64)) (omega arith)
    ∙ ap₂ g (sym (has_at a s fa.word_fits la)) (sym (has_at b s fb.word_fits lb))

-- a bit, shifted down and masked
pub masked : (w k : ℕ) → eqb (bit_and (w / 2 ^ k) 1) 1 ≡ bit w k
unfolding bit
masked w k = rw (and_mask _ 1) refl

-- words that are all alike
pub alike : (n v : ℕ) (b : Bool) → Fit n (replicate n v) → ((k : ℕ) → k < 64 → bit v k ≡ b) → Holds (64 * n) (bytes_of (replicate n v)) (λ s. b)
alike n v b f law s l =
    let q : s < 64 * length (replicate {A = ℕ} n v) = omega (arith, f.size) in
    has_at (replicate n v) s f.word_fits q ∙ ap (λ w. bit w (s % 64)) (get_or-replicate n (s / 64) v 0 (omega arith)) ∙ law (s % 64) (omega arith)

pub ones : (k : ℕ) → k < 64 → bit (2 ^ 64 - 1) k ≡ true
ones k l = bit_not 64 0 k (omega arith) l ∙ ap not (bit-zero k)

pub fit_like : (n v : ℕ) → 64 * n < 2 ^ 32 → v < 2 ^ 64 → Fit n (replicate n v)
fit_like n v h l = record {
  size = length-replicate n v;
  small = h;
  word_fits = λ k. either (look (below k n)) (λ q. rw (get_or-replicate n k v 0 (below_out k n q)) l) (λ q. rw (get_or-eq_default (replicate n v) 0 {n = k} (omega (arith, not-below k n q, length-replicate {A = ℕ} n v))) (omega arith));
}

-- a word is replaced
pub fit_set : (n : ℕ) (ws : List ℕ) (i v : ℕ) → Fit n ws → v < 2 ^ 64 → Fit n (set ws i v)
fit_set n ws i v f h = record {
  size = length-set ws i v ∙ f.size;
  small = f.small;
  word_fits = λ k. either (equal? k i) (λ e. rw e (at e)) (λ ne. rw (get_or-set_other ws i k v 0 ne) (f.word_fits k));
}
  where
    at : {k : ℕ} → k ≡ i → slice_index (set ws i v) i < 2 ^ 64
    at e = either (look (below i (length ws))) (λ q. rw (get_or-set_same ws i v 0 (below_out i (length ws) q)) h) (λ q. rw (get_or-eq_default (set ws i v) 0 {n = i} (omega (arith, not-below i (length ws) q, length-set ws i v))) (omega arith))

-- of words that are seen as bytes
pub each_shown : (g : Bool → Bool → Bool) (F : ℕ → ℕ → ℕ) → ((w v k : ℕ) → w < 2 ^ 64 → v < 2 ^ 64 → k < 64 → bit (F w v) k ≡ g (bit w k) (bit v k))
    → (n : ℕ) (a b r : List ℕ) {A B : List ℕ} → Fit n a → Fit n b → Fit n r → bytes_of a ≡ A → bytes_of b ≡ B
    → ((k : ℕ) → k < n → slice_index r k ≡ F (slice_index a k) (slice_index b k)) → Holds (64 * n) (bytes_of r) (λ s. g (has A s) (has B s))
each_shown g F law n a b r fa fb fr ea eb h s l =
    each_word g F law n a b r fa fb fr h s l ∙ ap₂ (λ (S T : List ℕ). g (has S s) (has T s)) ea eb

pub union_bits : (w v k : ℕ) → w < 2 ^ 64 → v < 2 ^ 64 → k < 64 → bit (bit_or w v) k ≡ (bit w k || bit v k)
union_bits w v k hw hv l = word_slots union_slots w v k hw hv (or_lt 64 w v hw hv) l

pub meet_bits : (w v k : ℕ) → w < 2 ^ 64 → v < 2 ^ 64 → k < 64 → bit (bit_and w v) k ≡ (bit w k && bit v k)
meet_bits w v k hw hv l = word_slots meet_slots w v k hw hv (and_lt 64 w v hw hv) l

-- the second operand is not looked at
pub complement_bits : (w v k : ℕ) → w < 2 ^ 64 → v < 2 ^ 64 → k < 64 → bit (2 ^ 64 - 1 - w) k ≡ not (bit w k)
complement_bits w v k hw hv l = word_slots complement_slots w v k hw hv (omega arith) l

pub without_bits : (w v k : ℕ) → w < 2 ^ 64 → v < 2 ^ 64 → k < 64 → bit (bit_and w (2 ^ 64 - 1 - v)) k ≡ (bit w k && not (bit v k))
without_bits w v k hw hv l =
    meet_bits w (2 ^ 64 - 1 - v) k hw (omega arith) l ∙ ap (λ b. bit w k && b) (complement_bits v v k hv hv l)

-- one number put in or taken out, of the words ws
weight : (i : ℕ) → i < 64 → (1 * 2 ^ i) % 2 ^ 64 ≡ 2 ^ i
weight i h = rw one-mul (mod-eq_of_lt (pow-lt h))

pub one_changed : (g : Bool → Bool → Bool) → ((b : Bool) → g b false ≡ b) → (n : ℕ) (ws : List ℕ) (s v : ℕ) → Fit n ws → Fit n (set ws (s / 64) v) → s < 64 * n
    → ((k : ℕ) → k < 64 → bit v k ≡ g (bit (slice_index ws (s / 64)) k) (same k (s % 64)))
    → Holds (64 * n) (bytes_of (set ws (s / 64) v)) (λ t. g (has (bytes_of ws) t) (same t s))
one_changed g keep n ws s v f f' h law t l =
    let lt : t < 64 * length ws = omega (arith, f.size) in
    let lt' : t < 64 * length (set ws (s / 64) v) = omega (arith, f'.size) in
    let ls : s / 64 < length ws = omega (arith, f.size) in
    has_at (set ws (s / 64) v) t f'.word_fits lt'
    ∙ either
    (equal? (t / 64) (s / 64))
    (λ e. rw (e, get_or-set_same ws (s / 64) v 0 ls, law (t % 64) (omega arith))
    (ap₂ g (ap (λ k. bit (slice_index ws k) (t % 64)) (sym e) ∙ sym (has_at ws t f.word_fits lt))
    (both (λ p. let q = same_eq p in eq_same (omega arith)) (λ p. let q = same_eq p in eq_same (omega arith)))))
    (λ ne. rw (get_or-set_other ws (s / 64) (t / 64) v 0 ne, ne_same {m = t} {n = s} (λ q. ne (ap (λ (x : ℕ). x / 64) q)))
    (sym (has_at ws t f.word_fits lt) ∙ sym (keep (has (bytes_of ws) t))))

same_sym : (a b : ℕ) → same a b ≡ same b a
same_sym a b = both (λ p. eq_same (sym (same_eq p))) (λ p. eq_same (sym (same_eq p)))

weight_small : (i : ℕ) → (1 * 2 ^ i) % 2 ^ 64 < 2 ^ 64
weight_small i = mod-lt (1 * 2 ^ i) (omega arith)

module _ (n : ℕ) (ws : List ℕ) (s : ℕ) (f : Fit n ws) (h : s < 64 * n) where
  pub inserted_fit : Fit n (set ws (s / 64) (bit_or (slice_index ws (s / 64)) (1 * 2 ^ (s % 64) % 2 ^ 64)))
  inserted_fit = fit_set n ws (s / 64) _ f (or_lt 64 _ _ (f.word_fits (s / 64)) (weight_small (s % 64)))

  pub inserted_holds : Holds (64 * n) (bytes_of (set ws (s / 64) (bit_or (slice_index ws (s / 64)) (1 * 2 ^ (s % 64) % 2 ^ 64)))) (λ t. has (bytes_of ws) t || same t s)
  inserted_holds = one_changed ◌||◌ or-false n ws s _ f inserted_fit h (λ k l.
      rw (weight (s % 64) (omega arith)) (bit-bit_or _ (2 ^ (s % 64)) k ∙ ap (λ b. bit (slice_index ws (s / 64)) k || b) (bit-weight (s % 64) k ∙ same_sym (s % 64) k)))

  pub removed_fit : Fit n (set ws (s / 64) (bit_and (slice_index ws (s / 64)) (2 ^ 64 - 1 - 1 * 2 ^ (s % 64) % 2 ^ 64)))
  removed_fit = fit_set n ws (s / 64) _ f (and_lt 64 _ _ (f.word_fits (s / 64)) (omega arith))

  pub removed_holds : Holds (64 * n) (bytes_of (set ws (s / 64) (bit_and (slice_index ws (s / 64)) (2 ^ 64 - 1 - 1 * 2 ^ (s % 64) % 2 ^ 64)))) (λ t. has (bytes_of ws) t && not (same t s))
  removed_holds = one_changed (λ a b. a && not b) and-true n ws s _ f removed_fit h (λ k l.
      rw (weight (s % 64) (omega arith))
      (bit-bit_and _ (2 ^ 64 - 1 - 2 ^ (s % 64)) k
      ∙ ap (λ b. bit (slice_index ws (s / 64)) k && b) (bit_not 64 (2 ^ (s % 64)) k (pow-lt {j = 64} (omega arith)) l ∙ ap not (bit-weight (s % 64) k ∙ same_sym (s % 64) k))))

-- words that are read from the bytes S
pub read_all : (n : ℕ) (ws S : List ℕ) → length ws ≡ n → length S ≡ 8 * n → Bytes S → ((k : ℕ) → k < n → slice_index ws k ≡ word 8 (drop (8 * k) S)) → bytes_of ws ≡ S
unfolding bytes_of
read_all zero [] [] lw ls b h = refl
read_all zero [] (x ∷ S) lw ls b h = absurd (omega arith)
read_all zero (w ∷ ws) S lw ls b h = absurd (omega arith)
read_all (suc n) [] S lw ls b h = absurd (omega arith)
read_all (suc n) (w ∷ ws) S lw ls b h =
    let first : bytes 8 w ≡ take 8 S = ap (bytes 8) (h 0 (omega arith)) ∙ bytes_of-word 8 S (omega arith) b in
    let rest : bytes_of ws ≡ drop 8 S = read_all n ws (drop 8 S) (omega arith) (simp length-drop (omega arith)) (drop-bytes 8 S b) (λ k l.
    h (suc k) (omega arith) ∙ ap (word 8) (ap (λ m. drop m S) (let e : 8 * suc k ≡ 8 + 8 * k = omega arith in e) ∙ sym (drop-drop (8 * k) 8 S))) in
    ap₂ (λ x y. x ++ y) first rest ∙ take-append-drop 8 S

-- the bytes of one word more
bytes_more : (ws : List ℕ) (k : ℕ) → k < length ws → bytes_of (take (suc k) ws) ≡ bytes_of (take k ws) ++ bytes 8 (slice_index ws k)
unfolding bytes_of
bytes_more [] k l = absurd (omega arith)
bytes_more (w ∷ ws) zero l = append-nil (bytes 8 w)
bytes_more (w ∷ ws) (suc k) l = ap (λ x. bytes 8 w ++ x) (bytes_more ws k (omega arith)) ∙ sym (append_assoc (bytes 8 w) (bytes_of (take k ws)) (bytes 8 (slice_index ws k)))

-- words that are written over the bytes S, k of them so far
pub write_more : (ws S d d' : List ℕ) (k w : ℕ) → k < length ws → w ≡ slice_index ws k → 8 * length ws ≡ length S
    → d ≡ bytes_of (take k ws) ++ drop (8 * k) S → d' ≡ put_at d (8 * k) (bytes 8 w) → d' ≡ bytes_of (take (k + 1) ws) ++ drop (8 * (k + 1)) S
write_more ws S d d' k w l e n h h' =
    let A = bytes_of (take k ws) in
    let la : length A ≡ 8 * k = omega (arith, length_bytes_of (take k ws), length-take-le k ws (omega arith)) in
    let ld : length d ≡ length S = ap length h ∙ omega (arith, length-append A (drop (8 * k) S), la, length-drop (8 * k) S) in
    let lw : length (bytes 8 w) ≡ 8 = length_bytes 8 w in
    let head : take (8 * k) d ≡ A = ap (take (8 * k)) h ∙ take_at A (drop (8 * k) S) (8 * k) la in
    let tail : drop (8 * k + 8) d ≡ drop (8 * (k + 1)) S
    = sym (drop-drop 8 (8 * k) d)
    ∙ ap (drop 8) (ap (drop (8 * k)) h ∙ drop_at A (drop (8 * k) S) (8 * k) la)
    ∙ drop-drop 8 (8 * k) S
    ∙ ap (λ m. drop m S) (let q : 8 * k + 8 ≡ 8 * (k + 1) = omega arith in q) in
    h'
    ∙ sets-eq (bytes 8 w) d (8 * k) (omega (arith, ld, lw))
    ∙ ap₂ (λ x y. x ++ bytes 8 w ++ y) head (ap (λ m. drop (8 * k + m) d) lw ∙ tail)
    ∙ ap (λ x. x ++ drop (8 * (k + 1)) S) (ap (λ v. A ++ bytes 8 v) e ∙ sym (bytes_more ws k l) ∙ ap (λ m. bytes_of (take m ws)) (let q : suc k ≡ k + 1 = omega arith in q))

pub fit_read : (n : ℕ) (ws S : List ℕ) → 64 * n < 2 ^ 32 → Bytes S → length ws ≡ n → ((k : ℕ) → k < n → slice_index ws k ≡ word 8 (drop (8 * k) S)) → Fit n ws
fit_read n ws S h b l e = record {
  size = l;
  small = h;
  word_fits = λ k. either
      (look (below k n))
      (λ q. let lt = below_out k n q in rw (e k lt) (word_lt 8 (drop (8 * k) S) (drop-bytes (8 * k) S b)))
      (λ q. rw (get_or-eq_default ws 0 {n = k} (omega (arith, not-below k n q))) (omega arith));
}

-- whether there is a lowest number tells whether there is any
pub lowest_tells : (n : ℕ) (f : ℕ → Bool) (r : Option ℕ) (b : Bool) → IfSome r (λ s. (s < n) × (s ≡ first n f)) → (IsNone r → any n f ≡ false) → is_some r ≡ not b → b ≡ not (any n f)
lowest_tells n f (Some s) b some none e =
    either
    (look (any n f))
    (λ q. rw (q, no_true (λ p. true≢false (e ∙ ap not p))) refl)
    (λ q. absurd (let z = first-none n f q in omega (arith, some.0, some.1, z)))
lowest_tells n f None true some none e = rw (none refl) refl
lowest_tells n f None false some none e = absurd (true≢false (sym e))

-- a set without one of its numbers has fewer
pub fewer : (n : ℕ) (S T : List ℕ) (s : ℕ) → s < n → s ≡ first n (has S) → Holds n T (λ t. has S t && not (same t s)) → count n (has T) < count n (has S)
fewer n S T s l e h =
    let some : any n (has S) ≡ true = either (look (any n (has S))) (λ q. q) (λ q. absurd (let z = first-none n (has S) q in omega (arith, z, e))) in
    let there : has S s ≡ true = subst (λ k. has S k ≡ true) (sym e) (first_in n (has S) some).1 in
    let gone : has T s ≡ false = h s l ∙ rw (same_refl s) (and-false (has S s)) in
    count_more n (has T) (has S) (λ x k p. and_l (has S x) _ (sym (h x k) ∙ p)) s l gone there

-- two sets have the same words exactly where they have the same bytes
same_words : (ws vs : List ℕ) → length ws ≡ length vs → ((k : ℕ) → slice_index ws k < 2 ^ 64) → ((k : ℕ) → slice_index vs k < 2 ^ 64) → bytes_of ws ≡ bytes_of vs → ws ≡ vs
unfolding bytes_of
same_words [] [] l f h e = refl
same_words [] (v ∷ vs) l f h e = absurd (omega arith)
same_words (w ∷ ws) [] l f h e = absurd (omega arith)
same_words (w ∷ ws) (v ∷ vs) l f h e =
    let one : bytes 8 w ≡ bytes 8 v
    = sym (take_at (bytes 8 w) (bytes_of ws) 8 (length_bytes 8 w)) ∙ ap (take 8) e ∙ take_at (bytes 8 v) (bytes_of vs) 8 (length_bytes 8 v) in
    let others : bytes_of ws ≡ bytes_of vs
    = sym (drop_at (bytes 8 w) (bytes_of ws) 8 (length_bytes 8 w)) ∙ ap (drop 8) e ∙ drop_at (bytes 8 v) (bytes_of vs) 8 (length_bytes 8 v) in
    ap₂ (λ x xs. x ∷ xs) ((eight w v (f 0) (h 0)).equal.1 one) (same_words ws vs (omega arith) (λ k. f (suc k)) (λ k. h (suc k)) others)

yes : (xs ys : List ℕ) → ¬ (false ≡ pointwise eqb xs ys) → pointwise eqb xs ys ≡ true
yes xs ys h = either (look (pointwise eqb xs ys)) (λ q. q) (λ q. absurd (h (sym q)))

pub words_equal : (n : ℕ) (ws vs : List ℕ) {A B : List ℕ} → Fit n ws → Fit n vs → bytes_of ws ≡ A → bytes_of vs ≡ B → pointwise eqb ws vs ≡ pointwise eqb A B
words_equal n ws vs {A} {B} f h a b =
    both
    (λ p. let e : A ≡ B = sym a ∙ ap bytes_of (same_text ws vs (sym p)) ∙ b in yes A B (λ q. other_text A B q e))
    (λ p. let e : ws ≡ vs = same_words ws vs (f.size ∙ sym h.size) f.word_fits h.word_fits (a ∙ same_text A B (sym p) ∙ sym b) in yes ws vs (λ q. other_text ws vs q e))
