-- What listing leaves in its buffers after a verdict, its count, and the rounds that it makes. A buffer is named twice: as it was, and as
-- it is at return (').
use Rattle.std.specs.Prelude.{◌≡◌, List, ℕ, length, replicate, Ok, Err}
use Rattle.verdict.specs.Verdict.{Verdict}
use Rattle.semantics.specs.Table.{form_of}
use Rattle.site.specs.Site.{site_of}
use Rattle.condition.specs.Bytes.{table_of}
use Rattle.semantics.specs.Holds.{Env}
use Rattle.rounds.specs.Makes.{Makes}
use Rattle.listing.specs.declared.Found.{Found}
use Rattle.listing.specs.Listed.{Listed}

-- listing the condition on the site makes n rounds, under every valuation
abbrev pub SiteMakes : (site table : List ℕ) (n : ℕ) → Type 0
SiteMakes site table n = (ρ : Env) → Makes (site_of site) ρ (form_of (table_of table)) n

-- the set, the count and the rounds after a verdict: the slots that the condition lists on the site; zeros where listing is refused
unfoldable pub SetAfter : Verdict → (site table set set' : List ℕ) (f : Found) → Type 0
SetAfter (Ok _) site table set set' f = Listed (site_of site) (form_of (table_of table)) set' f.count × SiteMakes site table f.rounds
SetAfter (Err r) site table set set' f = (set' ≡ replicate (length set) 0) × ((f.count ≡ 0) × (f.rounds ≡ 0))

-- what listing leaves after a verdict: the set, the count and the rounds, and a work buffer of zeros
pub record ListAfter (v : Verdict) (site table set set' work work' : List ℕ) (f : Found) : Type 0 where
  pub set_after : SetAfter v site table set set' f
  pub work_zero : work' ≡ replicate (length work) 0
