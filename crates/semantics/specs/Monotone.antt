-- Sets of slots inside one another.
use Rattle.std.specs.Prelude.{◌≡◌, ℕ, ◌<◌, true}
use Rattle.limits.specs.Limits.{slots}
use Rattle.semantics.specs.Holds.{Set}

-- S inside S', on the slots
abbrev pub ◌⊆◌ : Set → Set → Type 0
S ⊆ S' = (x : ℕ) → x < slots → S x ≡ true → S' x ≡ true

infix 4 ◌⊆◌
