-- Partitions of the slots: a list that gives each slot the lowest slot of its class.
use Rattle.std.specs.Prelude.{◌≡◌, true, ◌&&◌, List, ℕ, ◌+◌, ◌<◌, get_or}
use Rattle.finite.specs.Tests.{same, any, first}
use Rattle.bitset.specs.Set.{set_slots}
use Rattle.semantics.specs.Holds.{Model}
use Rattle.semantics.specs.Refine.{Rel, bisimilar_in}
use Rattle.partition.specs.Rows.{same_row, see_same, Neighbours}

-- slot s, by its number in p, and slot t, by its number in q, are in one class
abbrev pub across : List ℕ → List ℕ → Rel
across p q s t = same (get_or p s 0) (get_or q t 0)

-- s and t are in one class
abbrev pub together : List ℕ → Rel
together p = across p p

-- each slot has the lowest slot of its class as number
unfoldable pub Partition : List ℕ → Type 0
Partition p = (s : ℕ) → s < set_slots → get_or p s 0 ≡ first set_slots (together p s)

-- p is the partition of E: its classes are the slots that E relates
pub record Partitions (E : Rel) (p : List ℕ) : Type 0 where
  pub lowest : Partition p
  pub by : (s t : ℕ) → s < set_slots → t < set_slots → together p s t ≡ E s t

-- p is the partition of a first site, and q gives each slot t of a second site the class of p whose slots E relates to t; there is one
pub record Follows (E : Rel) (p q : List ℕ) : Type 0 where
  pub met : (t : ℕ) → t < set_slots → any set_slots (E t) ≡ true
  pub by : (t s : ℕ) → t < set_slots → s < set_slots → across q p t s ≡ E t s

-- s and t are in one class of q, and their rows of R are the same (`by_row_of`) or are in the same classes of p (`by_seen`)
unfoldable pub by_row_of : List ℕ → List (List ℕ) → Rel
by_row_of q R s t = together q s t && same_row R s t

unfoldable pub by_seen : List ℕ → List (List ℕ) → List ℕ → Rel
by_seen q R p s t = together q s t && see_same R p R p s t

-- q refines p by one round: where W are the neighbours and p is the partition after some round, q is the partition after the next
unfoldable pub Refines : List (List (List ℕ)) → List ℕ → List ℕ → Type 0
Refines W p q = (M : Model) → Neighbours M W → (k : ℕ) → Partitions (bisimilar_in k M M) p → Partitions (bisimilar_in (k + 1) M M) q
