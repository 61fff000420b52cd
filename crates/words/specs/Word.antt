-- Bytes as a number, low byte first.
use Rattle.std.specs.Prelude.{List, [], ◌∷◌, ℕ, zero, suc, ◌+◌, ◌*◌, ◌/◌, ◌%◌}
use Rattle.std.proofs.lemmas.List.Edits.{sets}

-- the first n bytes of S as one number
unfoldable pub word : ℕ → List ℕ → ℕ
word zero S = 0
word (suc n) [] = 0
word (suc n) (x ∷ S) = word n S * 256 + x

-- the n low bytes of w
unfoldable pub bytes : ℕ → ℕ → List ℕ
bytes zero w = []
bytes (suc n) w = w % 256 ∷ bytes n (w / 256)

-- S with the bytes vs from byte i on
abbrev pub put_at : List ℕ → ℕ → List ℕ → List ℕ
put_at S i vs = sets S i vs

-- f of the bytes of a and b, pair by pair
unfoldable pub pairwise : (ℕ → ℕ → ℕ) → List ℕ → List ℕ → List ℕ
pairwise f [] b = []
pairwise f (x ∷ a) [] = []
pairwise f (x ∷ a) (y ∷ b) = f x y ∷ pairwise f a b
