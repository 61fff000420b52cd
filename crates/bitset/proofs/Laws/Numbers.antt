-- What is left of a set whose numbers are taken word by word.
use Rattle.std.specs.Prelude.{◌≡◌, ◌≢◌, refl, true, false, not, ◌&&◌, List, ◌++◌, ℕ, zero, suc, ◌+◌, ◌-◌, ◌*◌, ◌/◌, ◌%◌, ◌^◌, ◌≤◌, ◌<◌, get_or, drop, replicate, Some}
use Rattle.std.proofs.Common.{sym, ◌∙◌, ap, ap₂, subst, arith, get_or-drop}
use Rattle.std.proofs.lemmas.List.{length-replicate, get_or-replicate, get_or_append_left, get_or-append_right}
use Rattle.std.proofs.Math.Bool.{and-true, and-false}
use Rattle.std.specs.Int.Bits.{bit_and, and_lt}
use Rattle.std.specs.Int.Count.{count_trailing_zeros}
use Rattle.finite.specs.Tests.{bit, same, below, any}
use Rattle.finite.specs.Bytes.{Bytes}
use Rattle.finite.proofs.Laws.Weights.{bit-zero}
use Rattle.finite.proofs.Laws.Bools.{either, look, both}
use Rattle.finite.proofs.Laws.Below.{equal?, same_refl, same_eq, eq_same, ne_same, below_out, not-below, none_any}
use Rattle.finite.proofs.Laws.First.{first_cong, first_is}
use Rattle.words.specs.Word.{word, bytes}
use Rattle.words.proofs.Laws.Library.{length_bytes}
use Rattle.words.proofs.Laws.Lowest.{lowest, none_lower, lowest_gone}
use Rattle.bitset.specs.Set.{has, Holds, Next}
use Rattle.bitset.specs.Numbers.{numbers_left}
use Rattle.bitset.proofs.Laws.Words.{has_word}
use Rattle.bitset.proofs.Laws.Sets.{word_bit}

module _ (S : List ℕ) where
  -- word k is the last that was begun, and w is left of it
  module _ (k w : ℕ) where
    abbrev zeros : List ℕ
    zeros = replicate (8 * k) 0

    abbrev rest : List ℕ
    rest = drop (8 * suc k) S

    none_before : (s : ℕ) → s < 64 * k → has (numbers_left S (suc k) w) s ≡ false
    unfolding has numbers_left
    none_before s h =
        ap (λ x. bit x (s % 8))
        (get_or_append_left zeros (bytes 8 w ++ rest) 0 (s / 8) (omega (arith, length-replicate {A = ℕ} (8 * k) 0))
        ∙ get_or-replicate (8 * k) (s / 8) 0 0 (omega arith))
        ∙ bit-zero (s % 8)

    of_last : w < 2 ^ 64 → (j : ℕ) → j < 64 → has (numbers_left S (suc k) w) (64 * k + j) ≡ bit w j
    unfolding has numbers_left
    of_last small j h =
        ap (λ x. bit x ((64 * k + j) % 8))
        (get_or-append_right zeros (bytes 8 w ++ rest) (8 * k) ((64 * k + j) / 8) 0 (length-replicate (8 * k) 0) (omega arith)
        ∙ get_or_append_left (bytes 8 w) rest 0 ((64 * k + j) / 8 - 8 * k) (omega (arith, length_bytes 8 w)))
        ∙ ap₂ (λ i m. bit (get_or (bytes 8 w) i 0) m) (let e : (64 * k + j) / 8 - 8 * k ≡ j / 8 = omega arith in e) (let e : (64 * k + j) % 8 ≡ j % 8 = omega arith in e)
        ∙ sym (word_bit w j small h)

    as_before : (s : ℕ) → 64 * suc k ≤ s → has (numbers_left S (suc k) w) s ≡ has S s
    unfolding has numbers_left
    as_before s h =
        ap (λ x. bit x (s % 8))
        (get_or-append_right zeros (bytes 8 w ++ rest) (8 * k) (s / 8) 0 (length-replicate (8 * k) 0) (omega arith)
        ∙ get_or-append_right (bytes 8 w) rest 8 (s / 8 - 8 * k) 0 (length_bytes 8 w) (omega arith)
        ∙ get_or-drop (8 * suc k) S (s / 8 - 8 * k - 8) 0
        ∙ ap (λ j. get_or S j 0) (let e : 8 * suc k + (s / 8 - 8 * k - 8) ≡ s / 8 = omega arith in e))

  -- of the words that were begun nothing is left
  none_begun : (b s : ℕ) → s < 64 * b → has (numbers_left S b 0) s ≡ false
  none_begun zero s h = absurd (omega arith)
  none_begun (suc k) s h =
      either
      (look (below s (64 * k)))
      (λ q. none_before k 0 s (below_out s (64 * k) q))
      (λ q.
      let m = not-below s (64 * k) q in
      subst (λ t. has (numbers_left S (suc k) 0) t ≡ false) (let e : 64 * k + (s - 64 * k) ≡ s = omega arith in e)
      (of_last k 0 (omega arith) (s - 64 * k) (omega arith) ∙ bit-zero (s - 64 * k)))

  not_begun : (b w s : ℕ) → 64 * b ≤ s → has (numbers_left S b w) s ≡ has S s
  unfolding numbers_left
  not_begun zero w s h = refl
  not_begun (suc k) w s h = as_before k w s h

  pub none_left : (n : ℕ) → any (64 * n) (has (numbers_left S n 0)) ≡ false
  none_left n = none_any (64 * n) (has (numbers_left S n 0)) (λ s h. none_begun n s h)

  -- one word more is begun
  pub begun_more : (n k w : ℕ) → Bytes S → w < 2 ^ 64 → w ≡ word 8 (drop (8 * k) S) → Holds (64 * n) (numbers_left S (k + 1) w) (has (numbers_left S k 0))
  begun_more n k w small fits e s h =
      subst (λ b. has (numbers_left S b w) s ≡ has (numbers_left S k 0) s) (let q : suc k ≡ k + 1 = omega arith in q)
      (either
      (look (below s (64 * k)))
      (λ q. let l = below_out s (64 * k) q in none_before k w s l ∙ sym (none_begun k s l))
      (λ q.
      let l = not-below s (64 * k) q in
      either
      (look (below s (64 * suc k)))
      (λ p.
      let m = below_out s (64 * suc k) p in
      subst (λ t. has (numbers_left S (suc k) w) t ≡ has (numbers_left S k 0) t) (let r : 64 * k + (s - 64 * k) ≡ s = omega arith in r)
      (of_last k w fits (s - 64 * k) (omega arith)
      ∙ ap (λ v. bit v (s - 64 * k)) e
      ∙ sym (has_word S (8 * k) (s - 64 * k) small (omega arith))
      ∙ ap (has S) (let r : 8 * k * 8 + (s - 64 * k) ≡ 64 * k + (s - 64 * k) = omega arith in r)
      ∙ sym (not_begun k 0 (64 * k + (s - 64 * k)) (omega arith))))
      (λ p. as_before k w s (not-below s (64 * suc k) p) ∙ sym (not_begun k 0 s l))))

  -- the lowest number of the last word is taken
  pub number_taken : (n b w s : ℕ) → 0 < b → b ≤ n → w ≢ 0 → w < 2 ^ 64 → s ≡ 64 * (b - 1) + count_trailing_zeros 64 w
      → Next (64 * n) (numbers_left S b w) (Some s) (numbers_left S b (bit_and w (w - 1)))
  number_taken n zero w s p i some fits e = absurd (omega arith)
  number_taken n (suc k) w s p i some fits e =
      let t = count_trailing_zeros 64 w in
      let low = lowest 64 w fits some in
      let at : s ≡ 64 * k + t = omega arith in
      let none : any (64 * k + t) (has (numbers_left S (suc k) w)) ≡ false
      = none_any (64 * k + t) (has (numbers_left S (suc k) w)) (λ r h. either
      (look (below r (64 * k)))
      (λ q. none_before k w r (below_out r (64 * k) q))
      (λ q.
      let l = not-below r (64 * k) q in
      subst (λ x. has (numbers_left S (suc k) w) x ≡ false) (let m : 64 * k + (r - 64 * k) ≡ r = omega arith in m)
      (of_last k w fits (r - 64 * k) (omega (arith, low.0)) ∙ none_lower 64 w (r - 64 * k) (omega arith)))) in
      let there : has (numbers_left S (suc k) w) (64 * k + t) ≡ true
      = of_last k w fits t low.0 ∙ low.1 t ∙ rw (same_refl t) refl in
      rw at (
        omega (arith, low.0),
        sym (first_is (64 * n) (has (numbers_left S (suc k) w)) (64 * k + t) (omega (arith, low.0)) none there),
        λ r h. either
            (look (below r (64 * k)))
            (λ q.
            let l = below_out r (64 * k) q in
            none_before k (bit_and w (w - 1)) r l ∙ rw (none_before k w r l) refl)
            (λ q.
            let l = not-below r (64 * k) q in
            either
            (look (below r (64 * suc k)))
            (λ p.
            let m = below_out r (64 * suc k) p in
            subst (λ x. has (numbers_left S (suc k) (bit_and w (w - 1))) x ≡ (has (numbers_left S (suc k) w) x && not (same x (64 * k + t))))
            (let y : 64 * k + (r - 64 * k) ≡ r = omega arith in y)
            (of_last k (bit_and w (w - 1)) (and_lt 64 w (w - 1) fits (omega arith)) (r - 64 * k) (omega arith)
            ∙ without_lowest (r - 64 * k)
            ∙ ap₂ (λ a b. a && not b) (sym (of_last k w fits (r - 64 * k) (omega arith))) (same_shifted (64 * k) (r - 64 * k) t)))
            (λ p.
            let m = not-below r (64 * suc k) p in
            as_before k (bit_and w (w - 1)) r m ∙ sym (rw (ne_same {m = r} {n = 64 * k + t} (λ e. omega (arith, low.0)), and-true (has (numbers_left S (suc k) w) r)) (as_before k w r m)))),
      )
    where
      without_lowest : (j : ℕ) → bit (bit_and w (w - 1)) j ≡ (bit w j && not (same j (count_trailing_zeros 64 w)))
      without_lowest j =
          let t = count_trailing_zeros 64 w in
          either
          (equal? j t)
          (λ q. rw (q, same_refl t, and-false (bit w t)) (lowest_gone 64 w fits some))
          (λ q. rw (ne_same q, and-true (bit w j)) (sym ((lowest 64 w fits some).1 j ∙ rw (ne_same q) refl)))

      same_shifted : (a j t : ℕ) → same j t ≡ same (a + j) (a + t)
      same_shifted a j t = both (λ p. let e = same_eq p in eq_same (omega arith)) (λ p. let e = same_eq p in eq_same (omega arith))

-- numbers that are the same have the same next
pub next_alike : (n : ℕ) (A B T : List ℕ) (s : ℕ) → Holds n A (has B) → Next n A (Some s) T → Next n B (Some s) T
next_alike n A B T s e x = (x.0, x.1 ∙ first_cong n (has A) (has B) e, λ t h. x.2 t h ∙ ap (λ a. a && not (same t s)) (e t h))
