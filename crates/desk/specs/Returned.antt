-- What each entry point returns and leaves in its buffers, for all inputs, in numbers. A buffer is named twice: as it was, and as it is at
-- return (').
use Rattle.std.specs.Prelude.{◌≡◌, List, ℕ, length}
use Rattle.verdict.specs.Verdict.{Verdict, Accepted, reason_of, where_of}
use Rattle.listing.specs.declared.Found.{Found}
use Rattle.list_entry.specs.Refusal.{list_inputs, list_verdict}
use Rattle.list_entry.specs.Listing.{SiteMakes, ListAfter}
use Rattle.chain_entry.specs.Refusal.{chain_verdict}
use Rattle.chain_entry.specs.Chaining.{ChainAfter}
use Rattle.apply_entry.specs.Refusal.{apply_verdict}
use Rattle.apply_entry.specs.Applying.{SiteAfter}
use Rattle.through.specs.Through.{through}
use Rattle.sheet.specs.Bytes.{edits_of}
use Rattle.rewrite_entry.specs.Refusal.{rewrite_verdict, through_verdict}
use Rattle.rewriting.specs.Rewriting.{TableAfter, rewritten}
use Rattle.classes_entry.specs.Refusal.{classes_verdict}
use Rattle.classes_entry.specs.Classing.{ClassesAfter}
use Rattle.trailer.specs.Refusal.{edition_in}
use Rattle.trailer.specs.Pieces.{site_in, condition_in, sheet_in}
use Rattle.job_run.specs.Buffers.{Buffers}
use Rattle.job_run.specs.Job.{JobMakes, JobAfter}
use Rattle.job_entry.specs.Refusal.{job_inputs, job_verdict}

-- the verdict `due` is returned in numbers: the reason, 0 where no item is met, and W, the fault; and what is left is what `After` says of
-- that verdict
pub record Returned (due : Verdict) (After : Verdict → Type 0) (reason fault : ℕ) : Type 0 where
  pub reason_is : reason ≡ reason_of due
  pub fault_is : fault ≡ where_of due
  pub left : After due

-- listing, with the count of the slots and the rounds. `made` is how many rounds listing makes; where an item before 15 is met, it does not
-- matter
pub record ReturnedList (limit : ℕ) (site table set set' work work' : List ℕ) (reason fault : ℕ) (f : Found) : Type 0 where
  pub made : ℕ
  pub makes : list_inputs (length set) (length work) limit site table ≡ Accepted → SiteMakes site table made
  pub returned : Returned (list_verdict (length set) (length work) limit site table made) (λ v. ListAfter v site table set set' work work' f) reason fault

-- applying, with no count
abbrev pub ReturnedApply : (edition : ℕ) (site sheet result result' : List ℕ) (reason fault : ℕ) → Type 0
ReturnedApply edition site sheet result result' reason fault =
    Returned (apply_verdict edition (length result) site sheet) (λ v. SiteAfter edition v site sheet result result') reason fault

-- rewriting, with the node count
abbrev pub ReturnedRewrite : (edition : ℕ) (table sheet result result' : List ℕ) (reason fault n : ℕ) → Type 0
ReturnedRewrite edition table sheet result result' reason fault n =
    Returned (rewrite_verdict edition (length result) table sheet) (λ v. TableAfter v (rewritten edition table sheet) result result' n) reason fault

-- the condition for going through, with the node count
abbrev pub ReturnedThrough : (edition : ℕ) (sheet result result' : List ℕ) (reason fault n : ℕ) → Type 0
ReturnedThrough edition sheet result result' reason fault n =
    Returned (through_verdict edition (length result) sheet) (λ v. TableAfter v (through (edits_of edition sheet)) result result' n) reason fault

-- class numbers, with how many different ones there are
abbrev pub ReturnedClasses : (site classes classes' : List ℕ) (reason fault n : ℕ) → Type 0
ReturnedClasses site classes classes' reason fault n =
    Returned (classes_verdict (length classes) site) (λ v. ClassesAfter v site classes classes' n) reason fault

-- the chain behind a place: whether there is one, and its steps
abbrev pub ReturnedChain : (site table : List ℕ) (way start : ℕ) (chain chain' set set' work work' : List ℕ) (reason fault found steps : ℕ) → Type 0
ReturnedChain site table way start chain chain' set set' work work' reason fault found steps =
    Returned (chain_verdict (length chain) (length set) (length work) site table way start)
    (λ v. ChainAfter v site table way start chain chain' set set' work work' found steps) reason fault

-- a job, with the counts and the rounds of the lists after and today, the rewritten nodes and the different class numbers. `after_made` and
-- `today_made` are how many rounds the lists make; where an item before 15 is met, they do not matter
pub record ReturnedJob (limit : ℕ) (file : List ℕ) (b b' : Buffers) (reason fault : ℕ) (after today : Found) (nodes classes : ℕ) : Type 0 where
  pub after_made : ℕ
  pub today_made : ℕ
  pub makes : job_inputs b limit file ≡ Accepted → JobMakes (edition_in file) (site_in file) (condition_in file) (sheet_in file) after_made today_made
  pub returned : Returned (job_verdict b limit file after_made today_made)
      (λ v. JobAfter (edition_in file) v (site_in file) (condition_in file) (sheet_in file) b b' after today nodes classes) reason fault
