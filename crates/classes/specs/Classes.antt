-- The class numbers of a site's slots. docs/SPEC.md, "Classes".
use Rattle.std.specs.Prelude.{◌≡◌, List, ℕ, ◌<◌, length, get_or}
use Rattle.finite.specs.Tests.{same, any, count}
use Rattle.finite.specs.Bytes.{Bytes}
use Rattle.bitset.specs.Set.{set_slots}
use Rattle.limits.specs.Limits.{slots}
use Rattle.semantics.specs.Holds.{Model}
use Rattle.semantics.specs.Bisimulation.{IsClass}

-- p has the class number of each slot: the lowest slot related to it by some likeness, that is by a bisimulation
pub record Classes (M : Model) (p : List ℕ) : Type 0 where
  pub long : length p ≡ set_slots
  pub bytes : Bytes p
  pub each : (s : ℕ) → s < slots → IsClass M s (get_or p s 0)

-- how many different class numbers p has
unfoldable pub different : List ℕ → ℕ
different p = count set_slots (λ c. any set_slots (λ s. same (get_or p s 0) c))
