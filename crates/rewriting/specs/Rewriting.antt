-- What rewriting, or the making of the condition for going through, leaves in its buffer after a verdict. The buffer is named twice: as it was, and as it is at return (').
use Rattle.std.specs.Prelude.{◌≡◌, List, ◌++◌, ℕ, ◌*◌, ◌-◌, length, replicate, Ok, Err}
use Rattle.verdict.specs.Verdict.{Verdict, Accepted}
use Rattle.semantics.specs.Table.{Node}
use Rattle.semantics.specs.Block.{rewrite_sheet}
use Rattle.condition.specs.Bytes.{table_of, bytes_of}
use Rattle.sheet.specs.Bytes.{edits_of}
use Rattle.limits.specs.Limits.{table_bytes}

-- the rewritten table
abbrev pub rewritten : (edition : ℕ) (table sheet : List ℕ) → List Node
rewritten edition table sheet = rewrite_sheet (edits_of edition sheet) (table_of table)

-- the result and the node count after a verdict: the bytes of the table xs, the one to be made, and then zeros; zeros where an input is refused
unfoldable pub TableAfter : Verdict → (xs : List Node) (result result' : List ℕ) (n : ℕ) → Type 0
TableAfter (Ok _) xs result result' n = (n ≡ length xs) × (result' ≡ bytes_of xs ++ replicate (table_bytes - 6 * n) 0)
TableAfter (Err r) xs result result' n = (n ≡ 0) × (result' ≡ replicate (length result) 0)
