-- What the steps of a job answer and leave in their buffers. A buffer is named twice: as it was, and as it is at return (').
use Rattle.std.specs.Prelude.{◌≡◌, List, ℕ, Result, IfOk}
use Rattle.verdict.specs.Verdict.{Verdict, Accepted, outcome, ◌then◌}
use Rattle.verdict.specs.declared.Refusal.{Refusal}
use Rattle.semantics.specs.Block.{rewrite_table}
use Rattle.site.specs.Site.{site_of}
use Rattle.condition.specs.Bytes.{table_of}
use Rattle.sheet.specs.Bytes.{edits_of}
use Rattle.applying.specs.Refusal.{goes_verdict}
use Rattle.rewriting.specs.Refusal.{length_verdict}
use Rattle.rewriting.specs.Rewriting.{TableAfter, rewritten}
use Rattle.apply_entry.specs.Applying.{SiteAfter}

-- items 13 and 14, in this order
unfoldable pub change_verdict : (edition : ℕ) (site cond sheet : List ℕ) → Verdict
change_verdict edition site cond sheet = goes_verdict (edits_of edition sheet) (site_of site) then length_verdict rewrite_table (edits_of edition sheet) (table_of cond)

-- applying and rewriting answer r
pub record Changed (edition : ℕ) (site cond sheet changed changed' table table' : List ℕ) (r : Result ℕ Refusal) : Type 0 where
  pub verdict : outcome r ≡ change_verdict edition site cond sheet
  pub site_after : IfOk r (λ _. SiteAfter edition Accepted site sheet changed changed')
  pub table_after : IfOk r (TableAfter Accepted (rewritten edition cond sheet) table table')
