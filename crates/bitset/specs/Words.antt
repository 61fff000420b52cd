-- A set as words of 64 numbers each.
use Rattle.std.specs.Prelude.{◌≡◌, List, [], ◌∷◌, ◌++◌, ℕ, zero, suc, ◌*◌, ◌^◌, ◌<◌, length, drop, slice_index}
use Rattle.words.specs.Word.{word, bytes}

-- the bytes of the words ws, in order
unfoldable pub bytes_of : List ℕ → List ℕ
bytes_of [] = []
bytes_of (w ∷ ws) = bytes 8 w ++ bytes_of ws

-- the n words whose bytes S begins with
unfoldable pub words_of : ℕ → List ℕ → List ℕ
words_of zero S = []
words_of (suc n) S = word 8 S ∷ words_of n (drop 8 S)

-- ws is n words, whose bits can be counted
pub record Fit (n : ℕ) (ws : List ℕ) : Type 0 where
  pub size : length ws ≡ n
  pub small : 64 * n < 2 ^ 32
  pub word_fits : (k : ℕ) → slice_index ws k < 2 ^ 64
