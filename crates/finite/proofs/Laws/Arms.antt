-- What the last arm of a match on a number knows, where the arms before it have the n numbers from i on.
use Rattle.std.specs.Prelude.{◌≡◌, ℕ, zero, suc, ◌+◌, ◌≤◌}
use Rattle.std.proofs.Common.{arith}

-- k is none of the n numbers from i on
abbrev pub Missed : (i n k : ℕ) → Type 0
Missed i zero k = Unit {0}
Missed i (suc n) k = Missed i n k × (k ≡ i + n → ⊥)

pub missed : (i n k : ℕ) → Missed i n k → i ≤ k → i + n ≤ k
missed i zero k h g = omega arith
missed i (suc n) k h g = let l : i + n ≤ k = missed i n k h.0 g in let ne : k ≡ i + n → ⊥ = h.1 in omega arith
