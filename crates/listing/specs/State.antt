-- What the evaluator keeps between calls, what a call of it asks, and what it answers and leaves. It keeps the memo, and the work buffer, which has
-- each known node's set.
use Rattle.std.specs.Prelude.{◌≡◌, List, true, Option, ℕ, ◌+◌, ◌*◌, ◌≤◌, ◌<◌, length}
use Rattle.semantics.specs.Form.{free}
use Rattle.semantics.specs.Holds.{Set, Env}
use Rattle.semantics.specs.Table.{tree_at}
use Rattle.semantics.specs.Eval.{eval}
use Rattle.semantics.specs.Agree.{◌≐◌}
use Rattle.rounds.specs.Count.{rounds}
use Rattle.site.specs.Site.{site_of}
use Rattle.condition.specs.Bytes.{table_of}
use Rattle.limits.specs.Limits.{variables}
use Rattle.listing_memo.specs.declared.memo.Memo.{Memo}
use Rattle.listing_memo.specs.Memo.{valuation, known, made, free_in}
use Rattle.listing_sets.specs.Offsets.{set_at}
use Rattle.listing.specs.Listed.{work_bytes}
use Rattle.listing.specs.Counting.{Within, counted, Usual}

-- the set of node j of the table S under the valuation ρ, and its rounds
abbrev pub node_set : List ℕ → List ℕ → Env → ℕ → Set
node_set site S ρ j = eval (site_of site) ρ (tree_at (table_of S) j)

abbrev pub node_rounds : List ℕ → List ℕ → Env → ℕ → ℕ
node_rounds site S ρ j = rounds (site_of site) ρ (tree_at (table_of S) j)

-- what is kept of node j is right under the valuation ρ: its set, and the rounds made for it, n
pub record Right (site S : List ℕ) (limit : Option ℕ) (ρ : Env) (work : List ℕ) (j n : ℕ) : Type 0 where
  pub set : set_at work j ≐ node_set site S ρ j
  pub number : n ≡ counted limit (node_rounds site S ρ j)

-- the memo is right: it has the variables that are free in each node, and what it keeps of the known nodes is right
pub record RightMemo (site S : List ℕ) (limit : Option ℕ) (memo : Memo) (work : List ℕ) : Type 0 where
  pub free_right : (x j : ℕ) → x < variables → 6 * j + 6 ≤ length S → free_in memo x j ≡ free x (tree_at (table_of S) j)
  pub known_right : (j : ℕ) → 6 * j + 6 ≤ length S → known memo j ≡ true → Right site S limit (valuation memo) work j (made memo j)

-- what a call asks: a limit, and a memo that is right
pub record Evaluable (site S : List ℕ) (limit : Option ℕ) (memo : Memo) (work : List ℕ) : Type 0 where
  pub usual : Usual limit
  pub work_size : length work ≡ work_bytes
  pub right : RightMemo site S limit memo work

-- what a call for node i leaves where its rounds are within the limit: a memo that is right, the variables' sets as they were, and node i's set in
-- the work buffer
pub record Done (site S : List ℕ) (limit : Option ℕ) (memo memo' : Memo) (work' : List ℕ) (i : ℕ) : Type 0 where
  pub right : RightMemo site S limit memo' work'
  pub values : (v : ℕ) → valuation memo' v ≐ valuation memo v
  pub here : set_at work' i ≐ node_set site S (valuation memo) i

-- and what it answers then: the node's rounds, as they are counted
pub record Evaluated (site S : List ℕ) (limit : Option ℕ) (memo memo' : Memo) (work' : List ℕ) (i n : ℕ) : Type 0 where
  pub number : n ≡ counted limit (node_rounds site S (valuation memo) i)
  pub within : Within limit (node_rounds site S (valuation memo) i)
  pub done : Done site S limit memo memo' work' i

-- node i's rounds are over the limit
abbrev pub Over : (site S : List ℕ) (limit : Option ℕ) (memo : Memo) (i : ℕ) → Type 0
Over site S limit memo i = ¬ Within limit (node_rounds site S (valuation memo) i)
