-- What the evaluator keeps between calls: the set of slots of each variable; the nodes whose sets are known, with the rounds made for each;
-- and, for each variable, the nodes in which it is free. A memo is named twice: as it was, and as it is at return (').
use Rattle.std.specs.Prelude.{◌≡◌, List, [], Bool, false, not, ◌&&◌, ◌||◌, cond, ℕ, ◌<◌, get_or}
use Rattle.finite.specs.Tests.{same, below, bit}
use Rattle.bitset.specs.Set.{set_slots, has}
use Rattle.limits.specs.Limits.{variables, table_nodes}
use Rattle.semantics.specs.Holds.{Set, Env, put}
use Rattle.semantics.specs.Agree.{◌≐◌}
use Rattle.listing_memo.specs.declared.memo.Memo.{Memo}

-- the variable x has the slot s
abbrev pub variable_has : Memo → ℕ → Set
variable_has m x s = has (get_or m.variables x []) s

-- the valuation: each of the variables has its set, and others have no slot
unfoldable pub valuation : Memo → Env
valuation m v s = below v variables && variable_has m v s

-- node j's set is known; the rounds made for it; the variable x is free in node j
abbrev pub known : Memo → ℕ → Bool
known m j = has m.known j

abbrev pub made : Memo → ℕ → ℕ
made m j = get_or m.rounds j 0

abbrev pub free_in : Memo → ℕ → ℕ → Bool
free_in m x j = has (get_or m.free_in x []) j

-- in which nodes each variable is free is as it was
abbrev pub SameFree : (m m' : Memo) → Type 0
SameFree m m' = (y k : ℕ) → y < variables → k < table_nodes → free_in m' y k ≡ free_in m y k

-- node j has become known with its rounds, and all else is as it was
pub record Kept (m m' : Memo) (j rounds : ℕ) : Type 0 where
  pub known_now : (k : ℕ) → k < table_nodes → known m' k ≡ (known m k || same k j)
  pub made_now : (k : ℕ) → made m' k ≡ cond (same k j) rounds (made m k)
  pub values : (v : ℕ) → valuation m' v ≐ valuation m v
  pub same_free : SameFree m m'

-- the variable x has got the set P, and the nodes in which it is free are not known any more; all else is as it was
pub record Assigned (m m' : Memo) (x : ℕ) (P : Set) : Type 0 where
  pub known_left : (k : ℕ) → k < table_nodes → known m' k ≡ (known m k && not (free_in m x k))
  pub made_left : (k : ℕ) → made m' k ≡ made m k
  pub values : (v : ℕ) → valuation m' v ≐ put (valuation m) x P v
  pub same_free : SameFree m m'

-- of the variables below x those of the mask are noted as free in node j; all else is as it was
pub record Noted (m m' : Memo) (j mask x : ℕ) : Type 0 where
  pub noted : (y k : ℕ) → y < variables → k < table_nodes → free_in m' y k ≡ (free_in m y k || (same k j && (below y x && bit mask y)))
  pub same_known : (k : ℕ) → known m' k ≡ known m k
  pub same_values : (v s : ℕ) → variable_has m' v s ≡ variable_has m v s

-- the memo at the start, once the masks of n nodes are noted: no variable has a slot, and no node is known
pub record Started (masks : List ℕ) (m : Memo) (n : ℕ) : Type 0 where
  pub noted : (y k : ℕ) → y < variables → k < table_nodes → free_in m y k ≡ (below k n && bit (get_or masks k 0) y)
  pub none_known : (k : ℕ) → k < table_nodes → known m k ≡ false
  pub no_slots : (v s : ℕ) → v < variables → s < set_slots → variable_has m v s ≡ false
