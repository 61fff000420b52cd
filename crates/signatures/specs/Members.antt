-- The slots that stand for their classes.
use Rattle.std.specs.Prelude.{Bool, List, ℕ, get_or}
use Rattle.finite.specs.Tests.{same}

-- slot t has its own number
abbrev pub owns : List ℕ → ℕ → Bool
owns p t = same (get_or p t 0) t
