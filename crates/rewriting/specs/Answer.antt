-- The node count in the answer of rewriting and of the condition for going through.
use Rattle.std.specs.Prelude.{ℕ, Result, Ok, Err}
use Rattle.verdict.specs.declared.Refusal.{Refusal}

-- 0 where the inputs are refused
abbrev pub nodes_of : Result ℕ Refusal → ℕ
nodes_of (Ok n) = n
nodes_of (Err r) = 0
