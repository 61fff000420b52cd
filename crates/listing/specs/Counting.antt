-- Rounds under a limit, or under none: then they are not counted, since nothing bounds their number.
use Rattle.std.specs.Prelude.{Option, Some, None, ℕ, ◌-◌, ◌≤◌}
use Rattle.limits.specs.Limits.{highest_limit}

-- n rounds are within the limit
abbrev pub Within : Option ℕ → ℕ → Type 0
Within None n = Unit {0}
Within (Some limit) n = n ≤ limit

-- what is counted of n rounds
abbrev pub counted : Option ℕ → ℕ → ℕ
counted None n = 0
counted (Some limit) n = n

-- the limit that is left once n rounds were made
abbrev pub left_of : Option ℕ → ℕ → Option ℕ
left_of None n = None
left_of (Some limit) n = Some (limit - n)

-- a limit that lists take
abbrev pub Usual : Option ℕ → Type 0
Usual None = Unit {0}
Usual (Some limit) = limit ≤ highest_limit
