-- The words of a set, from its bytes.
use Rattle.std.specs.Prelude.{◌≡◌, refl, List, [], ◌∷◌, ◌++◌, ℕ, zero, suc, ◌^◌, ◌<◌, length, slice_index}
use Rattle.std.proofs.Common.{sym, ap, ap₂, ◌∙◌, arith}
use Rattle.std.proofs.lemmas.List.{drop_at, take_at}
use Rattle.words.specs.Word.{word, bytes}
use Rattle.words.proofs.Laws.Bytes.{word_of_bytes}
use Rattle.words.proofs.Laws.Library.{length_bytes, word_take}
use Rattle.bitset.specs.Words.{bytes_of, words_of, Fit}

word_first : (w : ℕ) (S : List ℕ) → w < 2 ^ 64 → word 8 (bytes 8 w ++ S) ≡ w
word_first w S h = sym (word_take 8 (bytes 8 w ++ S)) ∙ ap (word 8) (take_at (bytes 8 w) S 8 (length_bytes 8 w)) ∙ word_of_bytes 8 w h

back : (n : ℕ) (ws : List ℕ) → length ws ≡ n → ((k : ℕ) → slice_index ws k < 2 ^ 64) → words_of n (bytes_of ws) ≡ ws
unfolding bytes_of words_of
back zero [] l h = refl
back zero (w ∷ ws) l h = absurd (omega arith)
back (suc n) [] l h = absurd (omega arith)
back (suc n) (w ∷ ws) l h =
    ap₂ (λ x xs. x ∷ xs) (word_first w (bytes_of ws) (h 0))
    (ap (words_of n) (drop_at (bytes 8 w) (bytes_of ws) 8 (length_bytes 8 w)) ∙ back n ws (omega arith) (λ k. h (suc k)))

pub words_of-bytes_of : (n : ℕ) (ws : List ℕ) → Fit n ws → words_of n (bytes_of ws) ≡ ws
words_of-bytes_of n ws f = back n ws f.size f.word_fits
