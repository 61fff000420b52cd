-- The demands on the edition of a sheet, over bytes: item 18 is met exactly if the edition is neither 1 nor 2. It comes right after item 1 where the
-- edition is given beside the sheet, and right after item 2 where it is the fourth number of a file's trailer: so nothing else is asked of the
-- inputs here. Which edits a sheet has in an edition says `edits_of`, and of these all other demands speak. A sheet that goes through in edition 1
-- goes through in edition 2 as well, and leaves the same site.
use Rattle.std.specs.Prelude.{◌≡◌, ◌↔◌, ◌≢◌, true, false, List, ℕ, ◌≤◌, length}
use Rattle.limits.specs.Limits.{table_bytes, highest_limit}
use Rattle.site.specs.Layout.{site_bytes}
use Rattle.trailer.specs.File.{number}
use Rattle.trailer.specs.Refusal.{item2}
use Rattle.listing.specs.declared.Found.{Found}
use Rattle.job_run.specs.Buffers.{Buffers, Sized}
use Rattle.desk.specs.Returned.{ReturnedApply, ReturnedRewrite, ReturnedThrough, ReturnedJob}
use Rattle.demands.specs.Demands.{ApplyCall}

-- refused exactly where the edition is not known, and W is then 0; zeros by demand 1
pub record EditionTested (edition reason fault : ℕ) : Type 0 where
  pub unknown : (reason ≡ 18) ↔ ((edition ≢ 1) × (edition ≢ 2))
  pub no_fault : reason ≡ 18 → fault ≡ 0

unfoldable pub DemandEditionApply : Type 0
DemandEditionApply =
    (edition : ℕ) (site sheet result result' : List ℕ) (reason fault : ℕ) → length result ≡ site_bytes
    → ReturnedApply edition site sheet result result' reason fault → EditionTested edition reason fault

unfoldable pub DemandEditionRewrite : Type 0
DemandEditionRewrite =
    (edition : ℕ) (table sheet result result' : List ℕ) (reason fault n : ℕ) → length result ≡ table_bytes
    → ReturnedRewrite edition table sheet result result' reason fault n → EditionTested edition reason fault

unfoldable pub DemandEditionThrough : Type 0
DemandEditionThrough =
    (edition : ℕ) (sheet result result' : List ℕ) (reason fault n : ℕ) → length result ≡ table_bytes
    → ReturnedThrough edition sheet result result' reason fault n → EditionTested edition reason fault

-- a file that meets item 2 is refused with 2, whatever stands in place of its edition
unfoldable pub DemandEditionJob : Type 0
DemandEditionJob =
    (limit : ℕ) (file : List ℕ) (b b' : Buffers) (reason fault : ℕ) (after today : Found) (nodes classes : ℕ) → Sized b → limit ≤ highest_limit
    → ReturnedJob limit file b b' reason fault after today nodes classes
    → (item2 file ≡ true → reason ≡ 2) × (item2 file ≡ false → EditionTested (number 3 file) reason fault)

-- ---- both editions

-- whatever the site and the sheet, and whatever was in the buffers, which have the stated length (`ApplyCall`)
unfoldable pub DemandBothEditions : Type 0
DemandBothEditions =
    (site sheet : List ℕ) (c : ApplyCall 1 site sheet) (d : ApplyCall 2 site sheet) → c.reason ≡ 0 → (d.reason ≡ 0) × (d.result' ≡ c.result')

-- ---- all five

pub record DemandEditions : Type 0 where
  pub applying : DemandEditionApply
  pub rewriting : DemandEditionRewrite
  pub going_through : DemandEditionThrough
  pub job : DemandEditionJob
  pub both : DemandBothEditions
