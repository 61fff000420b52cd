-- What is left of a set whose numbers are taken word by word.
use Rattle.std.specs.Prelude.{List, ◌++◌, ℕ, zero, suc, ◌*◌, replicate, drop}
use Rattle.words.specs.Word.{bytes}

-- the set S where so many of its words were begun, and w is left of the last of them: what is left of S
unfoldable pub numbers_left : List ℕ → (begun w : ℕ) → List ℕ
numbers_left S zero w = S
numbers_left S (suc k) w = replicate (8 * k) 0 ++ (bytes 8 w ++ drop (8 * suc k) S)
