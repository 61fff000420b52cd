-- What applying answers and leaves in the result, from the bytes of the site and of the sheet, and the sheet's edition.
use Rattle.std.specs.Prelude.{◌≡◌, true, false, List, ℕ, length, replicate}
use Rattle.semantics.specs.Edit.{sheet, sheet_goes}
use Rattle.site.specs.Layout.{site_bytes}
use Rattle.site.specs.Site.{site_of}
use Rattle.sheet.specs.Bytes.{edits_of}
use Rattle.verdict.specs.Verdict.{Verdict, Accepted}
use Rattle.applying.specs.Refusal.{goes_verdict}

-- the sheet s of an edition applied to the site S: the answer r and the bytes R of the result
pub record Applies (edition : ℕ) (S s R : List ℕ) (r : Verdict) : Type 0 where
  pub answer : r ≡ goes_verdict (edits_of edition s) (site_of S)
  pub left : sheet_goes (edits_of edition s) (site_of S) ≡ true → site_of R ≡ sheet (edits_of edition s) (site_of S)
  pub zeros : sheet_goes (edits_of edition s) (site_of S) ≡ false → R ≡ replicate site_bytes 0
  pub long : length R ≡ site_bytes

-- the edits applied in place, up to the first that does not go through: the answer r, and the bytes R that are left where all do
pub record Ran (edition : ℕ) (S s R : List ℕ) (r : Verdict) : Type 0 where
  pub answer : r ≡ goes_verdict (edits_of edition s) (site_of S)
  pub whole : r ≡ Accepted → site_of R ≡ sheet (edits_of edition s) (site_of S)
