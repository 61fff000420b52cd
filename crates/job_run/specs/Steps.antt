-- What a job on three pieces and its parts answer, for the functions inside. The buffers are named twice: as they were, and as they are at
-- return (').
use Rattle.std.specs.Prelude.{◌≡◌, List, ℕ, ◌*◌, ◌≤◌, length, take, replicate, IfOk, Result}
use Rattle.verdict.specs.Verdict.{Verdict, Accepted, outcome, ◌then◌}
use Rattle.verdict.specs.declared.Refusal.{Refusal}
use Rattle.site.specs.Layout.{site_bytes}
use Rattle.condition.specs.Refusal.{condition_verdict}
use Rattle.even_rule.specs.Free.{FreeRows}
use Rattle.limits.specs.Limits.{table_nodes}
use Rattle.rewriting.specs.Rewriting.{TableAfter, rewritten}
use Rattle.apply_entry.specs.Applying.{SiteAfter}
use Rattle.job_run.specs.declared.Report.{Report}
use Rattle.job_run.specs.Buffers.{Buffers}
use Rattle.job_run.specs.Job.{JobMakes, JobAfter}
use Rattle.job_run.specs.Answer.{after_of, today_of, nodes_of, classes_of}
use Rattle.job_run.specs.Refusal.{pieces_verdict, lists_verdict}

-- the buffers of a refusal
pub record Zeros (b b' : Buffers) : Type 0 where
  pub changed_zero : b'.changed ≡ replicate (length b.changed) 0
  pub table_zero : b'.table ≡ replicate (length b.table) 0
  pub after_zero : b'.after ≡ replicate (length b.after) 0
  pub today_zero : b'.today ≡ replicate (length b.today) 0
  pub classes_zero : b'.classes ≡ replicate (length b.classes) 0
  pub work_zero : b'.work ≡ replicate (length b.work) 0

-- the sheet has gone through and the rewritten table has n nodes; the condition on the changed site, and the table on the site, can be listed
pub record Made (edition : ℕ) (site cond sheet free' changed changed' table table' : List ℕ) (n : ℕ) : Type 0 where
  pub accepted : pieces_verdict edition site cond sheet ≡ Accepted
  pub site_after : SiteAfter edition Accepted site sheet changed changed'
  pub table_after : TableAfter Accepted (rewritten edition cond sheet) table table' n
  pub site_size : length site ≡ site_bytes
  pub cond_accepted : condition_verdict cond ≡ Accepted
  pub free_size : length free' ≡ table_nodes
  pub free_rows : FreeRows cond free'
  pub changed_size : length changed' ≡ site_bytes
  pub room : 6 * n ≤ length table'
  pub part_accepted : condition_verdict (take (6 * n) table') ≡ Accepted

-- the verdict of a job on these pieces, after the verdict `first` on all that is tested before them, is v, where its lists make so many rounds
pub record Judged (edition : ℕ) (first : Verdict) (limit : ℕ) (site cond sheet : List ℕ) (v : Verdict) : Type 0 where
  pub after_made : ℕ
  pub today_made : ℕ
  pub makes : first then pieces_verdict edition site cond sheet ≡ Accepted → JobMakes edition site cond sheet after_made today_made
  pub verdict : v ≡ (first then pieces_verdict edition site cond sheet) then lists_verdict limit after_made today_made

-- the job is tried, and answers r; where it refuses, nothing is said of the buffers
pub record Tried (edition : ℕ) (first : Verdict) (limit : ℕ) (site cond sheet : List ℕ) (b b' : Buffers) (r : Result Report Refusal) : Type 0 where
  pub judged : Judged edition first limit site cond sheet (outcome r)
  pub left : IfOk r (λ j. JobAfter edition Accepted site cond sheet b b' j.after j.today j.nodes j.classes)

-- the job answers r
pub record Ran (edition : ℕ) (first : Verdict) (limit : ℕ) (site cond sheet : List ℕ) (b b' : Buffers) (r : Result Report Refusal) : Type 0 where
  pub judged : Judged edition first limit site cond sheet (outcome r)
  pub left : JobAfter edition (outcome r) site cond sheet b b' (after_of r) (today_of r) (nodes_of r) (classes_of r)
