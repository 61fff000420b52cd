-- Numbers that are bytes.
use Rattle.std.specs.Prelude.{List, ℕ, ◌<◌, get_or}

-- each number of the list is a byte
abbrev pub Bytes : List ℕ → Type 0
Bytes s = (k : ℕ) → get_or s k 0 < 256
