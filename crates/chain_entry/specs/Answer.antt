-- The two numbers of the chain in its answer; both are 0 where none is given, and where the inputs are refused.
use Rattle.std.specs.Prelude.{ℕ, Option, Some, None, Result, Ok, Err}
use Rattle.verdict.specs.declared.Refusal.{Refusal}

-- 1 where a chain is given
abbrev pub found_of : Result (Option ℕ) Refusal → ℕ
found_of (Ok (Some n)) = 1
found_of (Ok None) = 0
found_of (Err r) = 0

-- how many steps it has
abbrev pub steps_of : Result (Option ℕ) Refusal → ℕ
steps_of (Ok (Some n)) = n
steps_of (Ok None) = 0
steps_of (Err r) = 0
