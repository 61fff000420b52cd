-- How far the passes of a sheet have come, and what is answered on inputs that meet no item before 14.
use Rattle.std.specs.Prelude.{◌≡◌, List, ◌++◌, Bool, true, false, ℕ, ◌*◌, ◌-◌, ◌≤◌, ◌<◌, length, take, replicate, Err, Result, Ok}
use Rattle.limits.specs.Limits.{table_nodes, table_bytes}
use Rattle.verdict.specs.Verdict.{Verdict, Accepted}
use Rattle.verdict.specs.declared.Refusal.TheVariants.{TableFull}
use Rattle.semantics.specs.Table.{Node}
use Rattle.semantics.specs.Edit.{Edit}
use Rattle.semantics.specs.Block.{Pass, passed, rewrite_table}
use Rattle.through.specs.Through.{through_edit}
use Rattle.condition.specs.Bytes.{bytes_of}
use Rattle.blocks.specs.declared.TooLong.{TooLong}
use Rattle.rewriting.specs.declared.Purpose.{Purpose}
use Rattle.rewriting.specs.declared.Purpose.TheVariants.{Rewrite, GoThrough}
use Rattle.rewriting.specs.Refusal.{is_too_long, length_verdict}
use Rattle.rewriting.specs.Rewriting.{TableAfter}

-- what is made of a table for an edit: it is rewritten; and to go through, the edit's own condition is put behind it
abbrev pub pass_of : Purpose → Pass
pass_of Rewrite = rewrite_table
pass_of GoThrough = through_edit

-- a buffer starts with the table xs, which has r nodes; or the table is too long, and the error counts over 2,048
abbrev pub TableMade : List Node → (o : List ℕ) → Result ℕ TooLong → Type 0
TableMade xs o (Ok r) = (r ≡ length xs) × (r ≤ table_nodes) × (take (6 * length xs) o ≡ bytes_of xs)
TableMade xs o (Err l) = (table_nodes < length xs) × (table_nodes < l.0)

-- all edits are done: a buffer starts with the table that is made, which has r nodes; or the item is met, and the error counts over 2,048
abbrev pub Passed : Pass → List Edit → List Node → (o : List ℕ) → Result ℕ TooLong → Type 0
Passed pass es xs o (Ok r) =
    (is_too_long pass es xs ≡ false) × (r ≡ length (passed pass es xs)) × (r ≤ table_nodes)
    × (take (6 * length (passed pass es xs)) o ≡ bytes_of (passed pass es xs))
Passed pass es xs o (Err l) = (is_too_long pass es xs ≡ true) × (table_nodes < l.0)

-- the verdict v, the node count n and the result (as it was, and as it is: ') after edits that made a table of so many nodes
pub record Finished (work : List ℕ) (made : ℕ) (result result' : List ℕ) (v : Verdict) (n : ℕ) : Type 0 where
  pub long : table_nodes < made → (v ≡ Err TableFull) × (n ≡ 0) × (result' ≡ replicate (length result) 0)
  pub short : made ≤ table_nodes → (v ≡ Accepted) × (n ≡ made) × (result' ≡ take (6 * made) work ++ replicate (table_bytes - 6 * made) 0)

-- inputs that meet none of the items before 14 have the verdict v and the node count n
pub record Rewrote (pass : Pass) (es : List Edit) (xs : List Node) (result result' : List ℕ) (v : Verdict) (n : ℕ) : Type 0 where
  pub verdict : v ≡ length_verdict pass es xs
  pub table_after : TableAfter v (passed pass es xs) result result' n
