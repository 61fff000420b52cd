-- Changes of a site at slots, of which the edits are made: each of one part of the model.
use Rattle.std.specs.Prelude.{not, ◌&&◌, ◌||◌, cond, ℕ}
use Rattle.finite.specs.Tests.{same, below}
use Rattle.semantics.specs.Holds.{Model}
use Rattle.semantics.specs.Edit.{set_present, set_marked, set_place, set_link}

-- name n is at slot x
unfoldable pub with_name : Model → ℕ → ℕ → Model
with_name M n x = set_place M (λ y. cond (same y n) x (M.place y))

-- slot x is present
unfoldable pub with_slot : Model → ℕ → Model
with_slot M x = set_present M (λ s. M.present s || same s x)

-- slot x is absent
unfoldable pub without_slot : Model → ℕ → Model
without_slot M x = set_present M (λ s. M.present s && not (same s x))

-- label p is on slot x
unfoldable pub with_label : Model → ℕ → ℕ → Model
with_label M p x = set_marked M (λ q s. cond (same q p) (M.marked q s || same s x) (M.marked q s))

-- label p is not on slot x
unfoldable pub without_label : Model → ℕ → ℕ → Model
without_label M p x = set_marked M (λ q s. cond (same q p) (M.marked q s && not (same s x)) (M.marked q s))

-- link m leads from slot x to slot y
unfoldable pub with_link : Model → ℕ → ℕ → ℕ → Model
with_link M m x y = set_link M (λ l s t. cond (same l m) (M.link l s t || (same s x && same t y)) (M.link l s t))

-- link m does not lead from slot x to slot y
unfoldable pub without_link : Model → ℕ → ℕ → ℕ → Model
without_link M m x y = set_link M (λ l s t. cond (same l m) (M.link l s t && not (same s x && same t y)) (M.link l s t))

-- link f leads from slot x to slot y alone
unfoldable pub with_target : Model → ℕ → ℕ → ℕ → Model
with_target M f x y = set_link M (λ l s t. cond (same l f && same s x) (same t y) (M.link l s t))

-- link f leads from slot x nowhere
unfoldable pub without_target : Model → ℕ → ℕ → Model
without_target M f x = set_link M (λ l s t. cond (same l f) (M.link l s t && not (same s x)) (M.link l s t))

-- no label is on slot x
unfoldable pub without_labels : Model → ℕ → Model
without_labels M x = set_marked M (λ q s. M.marked q s && not (same s x))

-- names at slot x are at nil
unfoldable pub without_names : Model → ℕ → Model
without_names M x = set_place M (λ y. cond (same (M.place y) x) 0 (M.place y))

-- no link leads from slot x or to it
unfoldable pub without_links : Model → ℕ → Model
without_links M x = set_link M (λ l s t. M.link l s t && not (same s x || same t x))

-- ---- steps of the loops that take a slot's labels, names and links away

-- name n is at nil where it was at slot x
unfoldable pub without_name : Model → ℕ → ℕ → Model
without_name M n x = set_place M (λ y. cond (same y n && same (M.place y) x) 0 (M.place y))

-- link m leads neither from slot x nor to it
unfoldable pub without_links_of : Model → ℕ → ℕ → Model
without_links_of M m x = set_link M (λ l s t. M.link l s t && not (same l m && (same s x || same t x)))

-- labels below i are not on slot x
unfoldable pub labels_to : Model → ℕ → ℕ → Model
labels_to M x i = set_marked M (λ q s. M.marked q s && not (below q i && same s x))

-- names below i are at nil where they were at slot x
unfoldable pub names_to : Model → ℕ → ℕ → Model
names_to M x i = set_place M (λ y. cond (below y i && same (M.place y) x) 0 (M.place y))

-- link m does not lead from slots below i to slot x
unfoldable pub column_to : Model → ℕ → ℕ → ℕ → Model
column_to M m x i = set_link M (λ l s t. M.link l s t && not (same l m && (same t x && below s i)))

-- links below i lead neither from slot x nor to it
unfoldable pub links_to : Model → ℕ → ℕ → Model
links_to M x i = set_link M (λ l s t. M.link l s t && not (below l i && (same s x || same t x)))
