-- What listing promises: the verdict, and what is left. A buffer is named twice: as it was, and as it is at return (').
use Rattle.std.specs.Prelude.{◌≡◌, List, ℕ, length, replicate, IfOk, Result}
use Rattle.verdict.specs.Verdict.{Verdict, Accepted, outcome}
use Rattle.verdict.specs.declared.Refusal.{Refusal}
use Rattle.semantics.specs.Table.{form_of}
use Rattle.site.specs.Site.{site_of}
use Rattle.condition.specs.Bytes.{table_of}
use Rattle.listing.specs.declared.Found.{Found}
use Rattle.listing.specs.Listed.{Listed}
use Rattle.list_entry.specs.Refusal.{list_inputs, list_verdict}
use Rattle.list_entry.specs.Listing.{SiteMakes, ListAfter}

-- listing answers the verdict v, and the count and the rounds of f. `made` is how many rounds it makes; where an item before 15 is met, it does
-- not matter
pub record ListAnswered (limit : ℕ) (site table set set' work work' : List ℕ) (v : Verdict) (f : Found) : Type 0 where
  pub made : ℕ
  pub makes : list_inputs (length set) (length work) limit site table ≡ Accepted → SiteMakes site table made
  pub verdict : v ≡ list_verdict (length set) (length work) limit site table made
  pub left : ListAfter v site table set set' work work' f

-- listing is tried, with buffers of these lengths, and answers r; where it refuses, nothing is said of the buffers
pub record ListTried (limit : ℕ) (site table : List ℕ) (set_len work_len : ℕ) (set' work' : List ℕ) (r : Result Found Refusal) : Type 0 where
  pub made : ℕ
  pub makes : list_inputs set_len work_len limit site table ≡ Accepted → SiteMakes site table made
  pub verdict : outcome r ≡ list_verdict set_len work_len limit site table made
  pub listed : IfOk r (λ f. Listed (site_of site) (form_of (table_of table)) set' f.count × SiteMakes site table f.rounds × (work' ≡ replicate work_len 0))
