-- The exports take bytes of any length, and do something with those of a set's length only.
use Rattle.std.specs.Prelude.{◌≡◌, List, ℕ, length}
use Rattle.bitset.specs.Set.{set_bytes}

-- P if S has as many bytes as a set, Q if not
pub record IfSet (S : List ℕ) (P Q : Type 0) : Type 0 where
  pub met : length S ≡ set_bytes → P
  pub unmet : (length S ≡ set_bytes → ⊥) → Q
