-- The features of a slot, as bits of a row: that it is present, its labels, its names.
use Rattle.std.specs.Prelude.{◌≡◌, Bool, ◌&&◌, cond, List, ℕ, ◌+◌, ◌-◌, ◌<◌}
use Rattle.finite.specs.Tests.{same, below}
use Rattle.bitset.specs.Set.{set_slots}
use Rattle.limits.specs.Limits.{labels, names}
use Rattle.semantics.specs.Holds.{Model}
use Rattle.partition.specs.Rows.{in_row}

-- where the labels start, and the names; and how many features there are
abbrev pub labels_from : ℕ
labels_from = 1

abbrev pub names_from : ℕ
names_from = labels_from + labels

abbrev pub features : ℕ
features = names_from + names

-- slot s has feature c
unfoldable pub feature : Model → ℕ → ℕ → Bool
feature M s c =
    cond (below c labels_from) (M.present s) (cond (below c names_from) (M.marked (c - labels_from) s) (same (M.place (c - names_from)) s))

-- the rows of G are the slots' features
unfoldable pub FeatureRows : Model → List (List ℕ) → Type 0
FeatureRows M G = (s c : ℕ) → s < set_slots → c < set_slots → in_row G s c ≡ (below c features && feature M s c)
