-- What a job on three pieces leaves in its buffers, and the rounds that its lists make. The buffers are named twice: as they were, and as they
-- are at return (').
use Rattle.std.specs.Prelude.{◌≡◌, List, ℕ, ◌*◌, length, take, replicate}
use Rattle.verdict.specs.Verdict.{Verdict}
use Rattle.semantics.specs.Holds.{Env}
use Rattle.semantics.specs.Table.{form_of}
use Rattle.semantics.specs.Edit as edits
use Rattle.rounds.specs.Makes.{Makes}
use Rattle.site.specs.Site.{site_of}
use Rattle.condition.specs.Bytes.{table_of}
use Rattle.sheet.specs.Bytes.{edits_of}
use Rattle.rewriting.specs.Rewriting.{TableAfter, rewritten}
use Rattle.listing.specs.declared.Found.{Found}
use Rattle.list_entry.specs.Listing.{SetAfter}
use Rattle.apply_entry.specs.Applying.{SiteAfter}
use Rattle.classes_entry.specs.Classing.{ClassesAfter}
use Rattle.job_run.specs.Buffers.{Buffers}

-- listing the condition on the site after the sheet makes a rounds, and listing the rewritten table on the site today makes t, under every
-- valuation
pub record JobMakes (edition : ℕ) (site cond sheet : List ℕ) (a t : ℕ) : Type 0 where
  pub after : (ρ : Env) → Makes (edits.sheet (edits_of edition sheet) (site_of site)) ρ (form_of (table_of cond)) a
  pub today : (ρ : Env) → Makes (site_of site) ρ (form_of (rewritten edition cond sheet)) t

-- what is left after a verdict, from the pieces: the site after the sheet, the rewritten table with its n nodes, the slots that the
-- condition lists on the site after, with the count and the rounds of a, the slots that the rewritten table lists on the site today, with
-- those of t, the class numbers of the site after, c of them different; each is zeros where the job is refused
pub record JobAfter (edition : ℕ) (v : Verdict) (site cond sheet : List ℕ) (b b' : Buffers) (a t : Found) (n c : ℕ) : Type 0 where
  pub site_after : SiteAfter edition v site sheet b.changed b'.changed
  pub table_after : TableAfter v (rewritten edition cond sheet) b.table b'.table n
  pub list_after : SetAfter v b'.changed cond b.after b'.after a
  pub list_today : SetAfter v site (take (6 * n) b'.table) b.today b'.today t
  pub classes_after : ClassesAfter v b'.changed b.classes b'.classes c
  pub work_zero : b'.work ≡ replicate (length b.work) 0
