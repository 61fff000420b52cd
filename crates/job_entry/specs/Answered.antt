-- What the inner function of a job promises: its verdict, and what it leaves. The buffers are named twice: as they were, and as they are at
-- return (').
use Rattle.std.specs.Prelude.{◌≡◌, List, ℕ}
use Rattle.verdict.specs.Verdict.{Verdict, Accepted}
use Rattle.trailer.specs.Refusal.{edition_in}
use Rattle.trailer.specs.Pieces.{site_in, condition_in, sheet_in}
use Rattle.listing.specs.declared.Found.{Found}
use Rattle.job_run.specs.Buffers.{Buffers}
use Rattle.job_run.specs.Job.{JobMakes, JobAfter}
use Rattle.job_entry.specs.Refusal.{job_inputs, job_verdict}

-- a job answers the verdict v, the counts and the rounds of a and t, and the counts n and c. `after_made` and `today_made` are how many rounds its
-- lists make; where an item before 15 is met, they do not matter
pub record JobAnswered (limit : ℕ) (file : List ℕ) (b b' : Buffers) (v : Verdict) (a t : Found) (n c : ℕ) : Type 0 where
  pub after_made : ℕ
  pub today_made : ℕ
  pub makes : job_inputs b limit file ≡ Accepted → JobMakes (edition_in file) (site_in file) (condition_in file) (sheet_in file) after_made today_made
  pub verdict : v ≡ job_verdict b limit file after_made today_made
  pub left : JobAfter (edition_in file) v (site_in file) (condition_in file) (sheet_in file) b b' a t n c
