-- Rows: a set for each of the 256 slots. A slot's signature is the row of the classes that its neighbours are in.
use Rattle.std.specs.Prelude.{◌≡◌, Bool, false, ◌&&◌, List, [], ℕ, ◌<◌, get_or}
use Rattle.std.specs.Bool.{beq}
use Rattle.limits.specs.Limits.{every_way}
use Rattle.finite.specs.Tests.{same, any, all}
use Rattle.bitset.specs.Set.{set_slots, has}
use Rattle.semantics.specs.Holds.{Model, step}
use Rattle.semantics.specs.Table.{way_of}
use Rattle.semantics.specs.Refine.{Rel}

-- row s
abbrev pub row : List (List ℕ) → ℕ → List ℕ
row R s = get_or R s []

-- slot t is in row s
abbrev pub in_row : List (List ℕ) → ℕ → ℕ → Bool
in_row R s t = has (row R s) t

-- R are the rows of the relation E: row s has the slots that it relates to s
abbrev pub RowsOf : Rel → List (List ℕ) → Type 0
RowsOf E R = (s t : ℕ) → s < set_slots → t < set_slots → in_row R s t ≡ E s t

-- the sets A and B are the same
abbrev pub same_set : List ℕ → List ℕ → Bool
same_set A B = all set_slots (λ c. beq (has A c) (has B c))

-- the rows s and t are the same
unfoldable pub same_row : List (List ℕ) → ℕ → ℕ → Bool
same_row R s t = same_set (row R s) (row R t)

-- some slot of the set A is in class c of the partition p
unfoldable pub sees : List ℕ → List ℕ → ℕ → Bool
sees A p c = any set_slots (λ t. has A t && same (get_or p t 0) c)

-- the slots of row s of R are in the same classes, by their numbers p, as those of row t of S by q
unfoldable pub see_same : List (List ℕ) → List ℕ → List (List ℕ) → List ℕ → ℕ → ℕ → Bool
see_same R p S q s t = all set_slots (λ c. beq (sees (row R s) p c) (sees (row S t) q c))

-- each slot's row of G are the classes of its row of R
unfoldable pub Signed : List (List ℕ) → List ℕ → List (List ℕ) → Type 0
Signed R p G = (s c : ℕ) → s < set_slots → c < set_slots → in_row G s c ≡ sees (row R s) p c

-- the rows of the ways 0 to 15: slot t is in row s of way w where w reaches t from s
abbrev pub way_rows : List (List (List ℕ)) → ℕ → List (List ℕ)
way_rows W w = get_or W w []

abbrev pub by_way : List (List (List ℕ)) → ℕ → ℕ → ℕ → Bool
by_way W w s t = in_row (way_rows W w) s t

unfoldable pub Neighbours : Model → List (List (List ℕ)) → Type 0
Neighbours M W = (w s t : ℕ) → w < every_way → s < set_slots → t < set_slots → by_way W w s t ≡ step M (way_of w) s t

-- u says of each way whether some slot of some row of it is there
abbrev pub Used : List (List (List ℕ)) → List Bool → Type 0
Used W u = (w : ℕ) → w < every_way → get_or u w false ≡ any set_slots (λ s. any set_slots (by_way W w s))
