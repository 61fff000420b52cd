-- Tests of a site by whole sets of slots, in the terms of the functions that `check` is made of.
use Rattle.std.specs.Prelude.{Bool, not, ◌&&◌, ◌||◌, List, ℕ, ◌+◌, ◌*◌}
use Rattle.finite.specs.Tests.{same, all}
use Rattle.bitset.specs.Set.{set_slots, has, Is}
use Rattle.site.specs.Site.{site_of}
use Rattle.site.specs.Refusal.{barred}

-- E is the set of the slots of site S where labels and links may be
abbrev pub OnSite : List ℕ → List ℕ → Type 0
OnSite S E = Is E (λ s. not (barred (site_of S) s))

-- the set at byte b of S lies inside A
abbrev pub inside : List ℕ → ℕ → List ℕ → Bool
inside S b A = all set_slots (λ t. not (has S (b * 8 + t)) || has A t)

-- the set at byte b, the targets of slot s, lies inside E, and is empty where s is not in E
abbrev pub row_inside : List ℕ → ℕ → List ℕ → ℕ → Bool
row_inside S b E s = all set_slots (λ t. not (has S (b * 8 + t)) || (has E s && has E t))

-- the target t of slot s is none, or both are in E
abbrev pub target_inside : List ℕ → ℕ → ℕ → Bool
target_inside E s t = same t 0 || (has E s && has E t)
