-- Small sites with a way, a start and a goal, and the chain or the set that is given.
use Rattle.std.specs.Prelude.{List, [], ◌∷◌, ℕ}
use Rattle.samples.specs.Site.{Small, site_a}

-- the slots of the chain, or those that can be reached
pub data Given : Type 0 where
  chain : List ℕ → Given
  reached : List ℕ → Given

pub record Row : Type 0 where
  pub site : Small
  pub way : ℕ
  pub start : ℕ
  -- the slots of the goal
  pub goal : List ℕ
  pub given : Given

-- slots 0 to n present, with these arcs of link 0
unfoldable pub plain : List ℕ → List (ℕ × ℕ × ℕ) → Small
plain here arcs = record { slots_here = here; labels_on = []; names_at = []; links_of = arcs }

-- two chains of two steps from 1 to 4; the arc to 3 stands first
unfoldable pub fork : Small
fork = plain (0 ∷ 1 ∷ 2 ∷ 3 ∷ 4 ∷ []) ((0, 1, 3) ∷ (0, 1, 2) ∷ (0, 3, 4) ∷ (0, 2, 4) ∷ [])

-- from 1 by 4 to 5 in two steps; by 2 and 3, which are lower, in three
unfoldable pub detour : Small
detour = plain (0 ∷ 1 ∷ 2 ∷ 3 ∷ 4 ∷ 5 ∷ []) ((0, 1, 2) ∷ (0, 2, 3) ∷ (0, 3, 5) ∷ (0, 1, 4) ∷ (0, 4, 5) ∷ [])

-- link 4 of site A along and back; the goal lists the start, here slot 0; the lower of two slots; the lower slot is not nearer; no chain
unfoldable pub rows : List Row
rows =
    record { site = site_a; way = 4; start = 3; goal = 1 ∷ []; given = chain (3 ∷ 2 ∷ 1 ∷ []) }
    ∷ record { site = site_a; way = 12; start = 1; goal = 3 ∷ []; given = chain (1 ∷ 2 ∷ 3 ∷ []) }
    ∷ record { site = site_a; way = 4; start = 0; goal = 0 ∷ []; given = chain (0 ∷ []) }
    ∷ record { site = fork; way = 0; start = 1; goal = 4 ∷ []; given = chain (1 ∷ 2 ∷ 4 ∷ []) }
    ∷ record { site = detour; way = 0; start = 1; goal = 5 ∷ []; given = chain (1 ∷ 4 ∷ 5 ∷ []) }
    ∷ record { site = site_a; way = 4; start = 2; goal = 3 ∷ []; given = reached (1 ∷ 2 ∷ []) }
    ∷ []
