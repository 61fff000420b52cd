-- The demands on a whole job, over the bytes of its file: what demands 2 and 3 ask of the entry points one by one holds of what a job
-- leaves; and a job is refused only where its file meets an item or a list makes more rounds than the limit.
use Rattle.std.specs.Prelude.{◌≡◌, ◌↔◌, List, ℕ, ◌*◌, ◌≤◌, take}
use Rattle.verdict.specs.Verdict.{Accepted}
use Rattle.limits.specs.Limits.{highest_limit}
use Rattle.trailer.specs.Refusal.{edition_in, trailer_verdict}
use Rattle.trailer.specs.Pieces.{site_in, condition_in, sheet_in}
use Rattle.listing.specs.Listed.{found_of}
use Rattle.job_run.specs.Buffers.{Buffers, Sized}
use Rattle.job_run.specs.Job.{JobMakes}
use Rattle.desk.specs.Returned.{ReturnedJob}
use Rattle.demands.specs.Demands.{Runnable, ListsAgree, SameNumbers}

-- a call of a job: six buffers of the stated lengths, a limit up to the highest, and whatever it returns and leaves in them (')
pub record JobCall (file : List ℕ) : Type 0 where
  pub limit : ℕ
  pub lent : Buffers
  pub lent' : Buffers
  pub reason : ℕ
  pub fault : ℕ
  pub after : ℕ
  pub today : ℕ
  pub nodes : ℕ
  pub classes : ℕ
  pub after_rounds : ℕ
  pub today_rounds : ℕ
  pub limit_fits : limit ≤ highest_limit
  pub sized : Sized lent
  pub returned : ReturnedJob limit file lent lent' reason fault (found_of after after_rounds) (found_of today today_rounds) nodes classes

-- the rewritten table that a job leaves: as many nodes as it counts, from the start of the buffer
abbrev pub job_table : {file : List ℕ} → JobCall file → List ℕ
job_table c = take (6 * c.nodes) c.lent'.table

-- a file that meets neither item 2 nor item 18, and whose pieces meet none of the items 3 to 14
pub record RunnableFile (file : List ℕ) : Type 0 where
  pub trailer_accepted : trailer_verdict file ≡ Accepted
  pub pieces : Runnable (edition_in file) (site_in file) (condition_in file) (sheet_in file)

-- each of the two lists of a file makes at most `limit` rounds
pub record RoundsFit (limit : ℕ) (file : List ℕ) : Type 0 where
  pub after : ℕ
  pub today : ℕ
  pub makes : JobMakes (edition_in file) (site_in file) (condition_in file) (sheet_in file) after today
  pub after_fits : after ≤ limit
  pub today_fits : today ≤ limit

-- what is to hold of a job that is not refused: demand 2 of its two lists, and demand 3 of its class numbers
pub record JobAgrees {file : List ℕ} (c : JobCall file) : Type 0 where
  pub lists : ListsAgree (edition_in file) (site_in file) (condition_in file) (sheet_in file) c.lent'.changed (job_table c) c.lent'.today c.lent'.after
      c.today c.after
  pub numbers : SameNumbers (edition_in file) (site_in file) (sheet_in file) c.lent'.classes

-- the reason is 0 exactly where no item is met, 15 included, and the job then agrees
unfoldable pub DemandJob : Type 0
DemandJob = (file : List ℕ) (c : JobCall file) → ((c.reason ≡ 0) ↔ (RunnableFile file × RoundsFit c.limit file)) × (c.reason ≡ 0 → JobAgrees c)
