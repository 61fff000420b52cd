-- When a link can be added, at slots.
use Rattle.std.specs.Prelude.{Bool, not, ◌&&◌, ◌||◌, ℕ}
use Rattle.finite.specs.Tests.{same}
use Rattle.semantics.specs.Holds.{Model}
use Rattle.semantics.specs.Edit.{functional, target}

-- neither end of a link, from x to y, is nil
abbrev pub ends_on_site : ℕ → ℕ → Bool
ends_on_site x y = not (same x 0) && not (same y 0)

-- link m can be added from slot x to slot y: neither is nil, and a functional link leads from x nowhere or to y
unfoldable pub joins : Model → ℕ → ℕ → ℕ → Bool
joins M m x y = ends_on_site x y && (not (functional m) || (same (target M m x) 0 || same (target M m x) y))
