-- The demands on the limit, over bytes. Item 15 is met exactly if no other item is and listing makes more rounds than the limit, and the rounds
-- returned are those that listing makes (`Makes`). Item 16 is met exactly if the limit is over the highest. Under a larger limit the answer stays
-- the same, unless it was item 15.
use Rattle.std.specs.Prelude.{◌≡◌, ◌⊎◌, ◌↔◌, ◌≢◌, List, ℕ, ◌≤◌, ◌<◌, length}
use Rattle.bitset.specs.Set.{set_bytes}
use Rattle.limits.specs.Limits.{highest_limit}
use Rattle.verdict.specs.Verdict.{Accepted}
use Rattle.site.specs.Refusal.{site_verdict}
use Rattle.condition.specs.Refusal.{condition_verdict}
use Rattle.trailer.specs.Refusal.{edition_in}
use Rattle.trailer.specs.Pieces.{site_in, condition_in, sheet_in}
use Rattle.listing.specs.declared.Found.{Found}
use Rattle.listing.specs.Listed.{work_bytes}
use Rattle.list_entry.specs.Listing.{SiteMakes}
use Rattle.job_run.specs.Buffers.{Buffers, Sized}
use Rattle.job_run.specs.Job.{JobMakes}
use Rattle.desk.specs.Returned.{ReturnedList, ReturnedJob}
use Rattle.demands.specs.Demands.{ListCall}
use Rattle.demands.specs.Job.{JobCall, RunnableFile}

-- ---- item 15: the limit refuses exactly

-- an accepted site and an accepted condition
pub record Listable (site table : List ℕ) : Type 0 where
  pub site_accepted : site_verdict site ≡ Accepted
  pub table_accepted : condition_verdict table ≡ Accepted

-- no other item is met, and listing makes more rounds than the limit
pub record ListOver (limit : ℕ) (site table : List ℕ) : Type 0 where
  pub listable : Listable site table
  pub rounds : ℕ
  pub makes : SiteMakes site table rounds
  pub over : limit < rounds

-- any site and condition, accepted or not
pub record ListLimit (site table : List ℕ) : Type 0 where
  pub over : (c : ListCall site table) → (c.reason ≡ 15) ↔ ListOver c.limit site table
  -- an accepted condition makes some number of rounds on an accepted site, and there is no second one; a call that 15 does not refuse returns it
  pub number : Listable site table → (n : ℕ) × SiteMakes site table n
  pub one : (m n : ℕ) → SiteMakes site table m → SiteMakes site table n → m ≡ n
  pub within : Listable site table → (n : ℕ) → SiteMakes site table n → (c : ListCall site table) → c.reason ≢ 15
      → (c.reason ≡ 0) × (c.rounds ≡ n)

unfoldable pub DemandLimitList : Type 0
DemandLimitList = (site table : List ℕ) → ListLimit site table

-- the lists of a job, on the site after and today, make a and t rounds
abbrev pub FileMakes : (file : List ℕ) (a t : ℕ) → Type 0
FileMakes file a t = JobMakes (edition_in file) (site_in file) (condition_in file) (sheet_in file) a t

-- no other item is met, and one of the lists makes more rounds than the limit, which is that of each list
pub record JobOver (limit : ℕ) (file : List ℕ) : Type 0 where
  pub runnable : RunnableFile file
  pub after : ℕ
  pub today : ℕ
  pub makes : FileMakes file after today
  pub over : (limit < after) ⊎ (limit < today)

-- any file
pub record JobLimit (file : List ℕ) : Type 0 where
  pub over : (c : JobCall file) → (c.reason ≡ 15) ↔ JobOver c.limit file
  -- the lists of a file that meets no other item make some number of rounds each, and there is no second one
  pub number : RunnableFile file → (a t : ℕ) × FileMakes file a t
  pub one : (a t a' t' : ℕ) → FileMakes file a t → FileMakes file a' t' → (a ≡ a') × (t ≡ t')
  pub within : RunnableFile file → (a t : ℕ) → FileMakes file a t → (c : JobCall file) → c.reason ≢ 15
      → (c.reason ≡ 0) × (c.after_rounds ≡ a) × (c.today_rounds ≡ t)

unfoldable pub DemandLimitJob : Type 0
DemandLimitJob = (file : List ℕ) → JobLimit file

-- ---- item 16: buffers of the stated lengths, any site, condition or file, and any limit

-- refused exactly where the limit is over the highest, and W is then 0; zeros by demand 1
pub record Highest (limit reason fault : ℕ) : Type 0 where
  pub over : (reason ≡ 16) ↔ (highest_limit < limit)
  pub no_fault : reason ≡ 16 → fault ≡ 0

unfoldable pub DemandHighestList : Type 0
DemandHighestList =
    (limit : ℕ) (site table set set' work work' : List ℕ) (reason fault : ℕ) (f : Found) → length set ≡ set_bytes → length work ≡ work_bytes
    → ReturnedList limit site table set set' work work' reason fault f → Highest limit reason fault

unfoldable pub DemandHighestJob : Type 0
DemandHighestJob =
    (limit : ℕ) (file : List ℕ) (b b' : Buffers) (reason fault : ℕ) (after today : Found) (nodes classes : ℕ) → Sized b
    → ReturnedJob limit file b b' reason fault after today nodes classes → Highest limit reason fault

-- ---- a larger limit

-- two calls of listing return and leave the same
pub record SameList {site table : List ℕ} (c d : ListCall site table) : Type 0 where
  pub same_reason : c.reason ≡ d.reason
  pub same_fault : c.fault ≡ d.fault
  pub same_count : c.count ≡ d.count
  pub same_rounds : c.rounds ≡ d.rounds
  pub same_set : c.set' ≡ d.set'
  pub same_work : c.work' ≡ d.work'

-- any site and condition, accepted or not; buffers of the stated lengths and limits up to the highest (`ListCall`)
unfoldable pub DemandLargerList : Type 0
DemandLargerList = (site table : List ℕ) (c d : ListCall site table) → c.limit ≤ d.limit → c.reason ≢ 15 → SameList c d

pub record SameJob {file : List ℕ} (c d : JobCall file) : Type 0 where
  pub same_reason : c.reason ≡ d.reason
  pub same_fault : c.fault ≡ d.fault
  pub same_after : c.after ≡ d.after
  pub same_today : c.today ≡ d.today
  pub same_nodes : c.nodes ≡ d.nodes
  pub same_classes : c.classes ≡ d.classes
  pub same_after_rounds : c.after_rounds ≡ d.after_rounds
  pub same_today_rounds : c.today_rounds ≡ d.today_rounds
  pub same_buffers : c.lent' ≡ d.lent'

-- any file; buffers of the stated lengths and limits up to the highest (`JobCall`)
unfoldable pub DemandLargerJob : Type 0
DemandLargerJob = (file : List ℕ) (c d : JobCall file) → c.limit ≤ d.limit → c.reason ≢ 15 → SameJob c d

-- ---- all six

pub record DemandRounds : Type 0 where
  pub limit_list : DemandLimitList
  pub limit_job : DemandLimitJob
  pub highest_list : DemandHighestList
  pub highest_job : DemandHighestJob
  pub larger_list : DemandLargerList
  pub larger_job : DemandLargerJob
