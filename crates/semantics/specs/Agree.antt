-- Sets with the same slots.
use Rattle.std.specs.Prelude.{◌≡◌, ℕ, ◌<◌}
use Rattle.limits.specs.Limits.{slots}
use Rattle.semantics.specs.Holds.{Set}

-- two sets with the same slots
abbrev pub ◌≐◌ : Set → Set → Type 0
S ≐ S' = (x : ℕ) → x < slots → S x ≡ S' x

infix 4 ◌≐◌
