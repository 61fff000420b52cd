-- A map of sets of slots, applied again and again.
use Rattle.std.specs.Prelude.{false, true, ℕ, zero, suc}
use Rattle.semantics.specs.Holds.{Set}

-- k rounds of F from S
unfoldable pub iter : ℕ → (Set → Set) → Set → Set
iter zero F S = S
iter (suc k) F S = F (iter k F S)

unfoldable pub none : Set
none x = false

unfoldable pub full : Set
full x = true
