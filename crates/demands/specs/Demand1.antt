-- Demand 1: a planner who hands in a job, of whatever bytes, gets the full answer or one numbered refusal, and a refusal leaves
-- zeros in all result and work buffers. Said of the job first, then of each entry point; for all inputs: nothing is asked of bytes
-- or lengths. That a call returns as `Returned..` says is the contract of its export. A buffer is named twice: as it was, and as it is at
-- return (').
use Rattle.std.specs.Prelude.{◌≡◌, ◌≢◌, List, ℕ, ◌≤◌, length, replicate}
use Rattle.verdict.specs.Verdict.{Accepted}
use Rattle.refusals.specs.Refusal.{last_item}
use Rattle.listing.specs.declared.Found.{Found}
use Rattle.list_entry.specs.Listing.{ListAfter}
use Rattle.chain_entry.specs.Chaining.{ChainAfter}
use Rattle.apply_entry.specs.Applying.{SiteAfter}
use Rattle.through.specs.Through.{through}
use Rattle.sheet.specs.Bytes.{edits_of}
use Rattle.rewriting.specs.Rewriting.{TableAfter, rewritten}
use Rattle.classes_entry.specs.Classing.{ClassesAfter}
use Rattle.trailer.specs.Refusal.{edition_in}
use Rattle.trailer.specs.Pieces.{site_in, condition_in, sheet_in}
use Rattle.job_run.specs.Buffers.{Buffers}
use Rattle.job_run.specs.Job.{JobAfter}
use Rattle.desk.specs.Returned.{ReturnedList, ReturnedApply, ReturnedRewrite, ReturnedThrough, ReturnedClasses, ReturnedChain, ReturnedJob}

-- the full answer where the reason is 0, and W is then 0; else the number of an item, and zeros
pub record Answers (reason fault : ℕ) (Full Zeros : Type 0) : Type 0 where
  pub numbered : reason ≤ last_item
  pub full : reason ≡ 0 → (fault ≡ 0) × Full
  pub sent_back : reason ≢ 0 → Zeros

-- a buffer is zeros, at the length it had
abbrev pub Zeroed : (b b' : List ℕ) → Type 0
Zeroed b b' = b' ≡ replicate (length b) 0

-- ---- the job

-- the site after, the rewritten table, both lists and the classes after, with their counts and rounds, from the three pieces of the file
abbrev pub FullJob : (file : List ℕ) (b b' : Buffers) (after today : Found) (nodes classes : ℕ) → Type 0
FullJob file b b' after today nodes classes = JobAfter (edition_in file) Accepted (site_in file) (condition_in file) (sheet_in file) b b' after today nodes classes

-- the five result buffers and the work buffer are zeros, and the four counts and the rounds of both lists are 0
pub record ZeroJob (b b' : Buffers) (after today : Found) (nodes classes : ℕ) : Type 0 where
  pub changed_zero : Zeroed b.changed b'.changed
  pub table_zero : Zeroed b.table b'.table
  pub after_zero : Zeroed b.after b'.after
  pub today_zero : Zeroed b.today b'.today
  pub classes_zero : Zeroed b.classes b'.classes
  pub work_zero : Zeroed b.work b'.work
  pub none_after : after.count ≡ 0
  pub none_today : today.count ≡ 0
  pub no_nodes : nodes ≡ 0
  pub no_classes : classes ≡ 0
  pub no_rounds_after : after.rounds ≡ 0
  pub no_rounds_today : today.rounds ≡ 0

unfoldable pub Demand1Job : Type 0
Demand1Job =
    (limit : ℕ) (file : List ℕ) (b b' : Buffers) (reason fault : ℕ) (after today : Found) (nodes classes : ℕ)
    → ReturnedJob limit file b b' reason fault after today nodes classes
    → Answers reason fault (FullJob file b b' after today nodes classes) (ZeroJob b b' after today nodes classes)

-- ---- the other functions, one by one: what each leaves after the verdict Accepted, or zeros

unfoldable pub Demand1List : Type 0
Demand1List =
    (limit : ℕ) (site table set set' work work' : List ℕ) (reason fault : ℕ) (f : Found) → ReturnedList limit site table set set' work work' reason fault f
    → Answers reason fault (ListAfter Accepted site table set set' work work' f)
    (Zeroed set set' × (Zeroed work work' × ((f.count ≡ 0) × (f.rounds ≡ 0))))

unfoldable pub Demand1Apply : Type 0
Demand1Apply =
    (edition : ℕ) (site sheet result result' : List ℕ) (reason fault : ℕ) → ReturnedApply edition site sheet result result' reason fault
    → Answers reason fault (SiteAfter edition Accepted site sheet result result') (Zeroed result result')

unfoldable pub Demand1Rewrite : Type 0
Demand1Rewrite =
    (edition : ℕ) (table sheet result result' : List ℕ) (reason fault n : ℕ) → ReturnedRewrite edition table sheet result result' reason fault n
    → Answers reason fault (TableAfter Accepted (rewritten edition table sheet) result result' n) (Zeroed result result' × (n ≡ 0))

unfoldable pub Demand1Through : Type 0
Demand1Through =
    (edition : ℕ) (sheet result result' : List ℕ) (reason fault n : ℕ) → ReturnedThrough edition sheet result result' reason fault n
    → Answers reason fault (TableAfter Accepted (through (edits_of edition sheet)) result result' n) (Zeroed result result' × (n ≡ 0))

unfoldable pub Demand1Classes : Type 0
Demand1Classes =
    (site classes classes' : List ℕ) (reason fault n : ℕ) → ReturnedClasses site classes classes' reason fault n
    → Answers reason fault (ClassesAfter Accepted site classes classes' n) (Zeroed classes classes' × (n ≡ 0))

unfoldable pub Demand1Chain : Type 0
Demand1Chain =
    (site table : List ℕ) (way start : ℕ) (chain chain' set set' work work' : List ℕ) (reason fault found steps : ℕ)
    → ReturnedChain site table way start chain chain' set set' work work' reason fault found steps
    → Answers reason fault (ChainAfter Accepted site table way start chain chain' set set' work work' found steps)
    (Zeroed chain chain' × (Zeroed set set' × (Zeroed work work' × ((found ≡ 0) × (steps ≡ 0)))))

-- ---- all seven

pub record Demand1 : Type 0 where
  pub job : Demand1Job
  pub listing : Demand1List
  pub applying : Demand1Apply
  pub rewriting : Demand1Rewrite
  pub going_through : Demand1Through
  pub classes : Demand1Classes
  pub chain : Demand1Chain
