-- The bytes of the chain that is given, and the table of the condition that says whether one is: docs/SPEC.md, "The chain behind a place".
use Rattle.std.specs.Prelude.{◌≡◌, List, ◌++◌, ℕ, ◌-◌, ◌<◌, length, get_or}
use Rattle.semantics.specs.Form.{Way}
use Rattle.semantics.specs.Holds.{Model}
use Rattle.semantics.specs.Table.{k_var, k_dia, k_mu, k_or, Node}
use Rattle.semantics.specs.Block.{Block, old, end, on, join, emit}
use Rattle.chains.specs.Chain.{Shortest}

-- how many bytes a chain has: no slot is in it twice
abbrev pub chain_bytes : ℕ
chain_bytes = 256

-- the chain to give, of n steps: 256 bytes, the start first, and zeros behind the last slot
pub record ChainGiven (M : Model) (w : Way) (G : ℕ → Type 0) (s n : ℕ) (chain : List ℕ) : Type 0 where
  pub size : length chain ≡ chain_bytes
  pub shortest : Shortest M w G s n (λ i. get_or chain i 0)
  pub zeros : (i : ℕ) → n < i → get_or chain i 0 ≡ 0

-- mu 15 (goal or diamond variable 15) as a table, of whatever length: the goal's table, whose last node is `goal`, and behind it four nodes
unfoldable pub leads_block : (p goal : ℕ) → Block
leads_block p goal = on k_mu 15 (join k_or (old goal) (on k_dia p (end k_var 15)))

unfoldable pub leads_table : (p : ℕ) → List Node → List Node
leads_table p xs = xs ++ emit (leads_block p (length xs - 1)) (length xs)
