-- What the check of a condition's table hands on: a mask of the free variables of each node.
use Rattle.std.specs.Prelude.{◌≡◌, List, ℕ, ◌≤◌, ◌<◌, length, get_or, replicate, Ok, Err}
use Rattle.finite.specs.Tests.{bit}
use Rattle.verdict.specs.Verdict.{Verdict, Accepted}
use Rattle.limits.specs.Limits.{variables, table_nodes}
use Rattle.semantics.specs.Form.{free}
use Rattle.semantics.specs.Table.{tree_at}
use Rattle.condition.specs.Bytes.{table_of}
use Rattle.condition.specs.Refusal.{condition_verdict}

-- digit v of entry i: the variable v is free in node i. Entries that are no node's are 0
pub record FreeRows (S rows : List ℕ) : Type 0 where
  pub node : (i v : ℕ) → i < length (table_of S) → v < variables → bit (get_or rows i 0) v ≡ free v (tree_at (table_of S) i)
  pub rest : (i : ℕ) → length (table_of S) ≤ i → get_or rows i 0 ≡ 0

-- a mask for each place of the longest table, all 0
abbrev pub no_masks : List ℕ
no_masks = replicate table_nodes 0

-- the masks after a verdict: all are 0 where the table is refused
unfoldable pub FreeAfter : Verdict → List ℕ → List ℕ → Type 0
FreeAfter (Ok _) S rows = FreeRows S rows
FreeAfter (Err r) S rows = rows ≡ no_masks

-- the check of the table S answers r and leaves these masks
pub record Checked (S rows : List ℕ) (r : Verdict) : Type 0 where
  pub verdict : r ≡ condition_verdict S
  pub masks : FreeAfter r S rows
