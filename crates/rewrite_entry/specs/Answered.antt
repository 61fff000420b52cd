-- What the inner functions of rewriting and of the condition for going through promise: the verdict, and what is left. The buffer is named twice: as
-- it was, and as it is at return (').
use Rattle.std.specs.Prelude.{◌≡◌, List, ℕ, length}
use Rattle.verdict.specs.Verdict.{Verdict}
use Rattle.semantics.specs.Table.{Node}
use Rattle.through.specs.Through.{through}
use Rattle.sheet.specs.Bytes.{edits_of}
use Rattle.rewriting.specs.Rewriting.{rewritten, TableAfter}
use Rattle.rewrite_entry.specs.Refusal.{rewrite_verdict, through_verdict}

-- the verdict v, which is `due`, and the node count n, where xs is the table to be made
pub record TableAnswered (due : Verdict) (xs : List Node) (result result' : List ℕ) (v : Verdict) (n : ℕ) : Type 0 where
  pub verdict : v ≡ due
  pub left : TableAfter v xs result result' n

abbrev pub RewriteAnswered : (edition : ℕ) (table sheet result result' : List ℕ) (v : Verdict) (n : ℕ) → Type 0
RewriteAnswered edition table sheet result result' v n =
    TableAnswered (rewrite_verdict edition (length result) table sheet) (rewritten edition table sheet) result result' v n

abbrev pub ThroughAnswered : (edition : ℕ) (sheet result result' : List ℕ) (v : Verdict) (n : ℕ) → Type 0
ThroughAnswered edition sheet result result' v n =
    TableAnswered (through_verdict edition (length result) sheet) (through (edits_of edition sheet)) result result' v n
