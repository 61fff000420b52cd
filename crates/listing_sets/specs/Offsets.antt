-- Sets of slots at their offsets in a buffer: set j is the 32 bytes from offset 32 * j on. The work buffer has a set for each node.
use Rattle.std.specs.Prelude.{◌≢◌, List, ℕ, ◌+◌, ◌*◌}
use Rattle.bitset.specs.Set.{set_slots, has}
use Rattle.semantics.specs.Holds.{Set}
use Rattle.semantics.specs.Agree.{◌≐◌}

-- set j of a buffer
unfoldable pub set_at : List ℕ → ℕ → Set
set_at b j s = has b (set_slots * j + s)

-- the buffer b has become b': set j is S, the others are what they were
pub record SetWritten (b b' : List ℕ) (j : ℕ) (S : Set) : Type 0 where
  pub here : set_at b' j ≐ S
  pub others : (k : ℕ) → k ≢ j → set_at b' k ≐ set_at b k
