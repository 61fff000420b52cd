-- Rows that gain slots.
use Rattle.std.specs.Prelude.{◌≡◌, Bool, ◌||◌, List, ℕ, ◌<◌}
use Rattle.bitset.specs.Set.{set_slots}
use Rattle.partition.specs.Rows.{in_row}

-- A is B with slot t put into row s where f says so
pub record Gains (f : ℕ → ℕ → Bool) (B A : List (List ℕ)) : Type 0 where
  pub holds : (s t : ℕ) → s < set_slots → t < set_slots → in_row A s t ≡ (in_row B s t || f s t)
