-- What applying leaves in its buffer after a verdict. The buffer is named twice: as it was, and as it is at return (').
use Rattle.std.specs.Prelude.{◌≡◌, List, ℕ, length, replicate, Ok, Err}
use Rattle.finite.specs.Bytes.{Bytes}
use Rattle.verdict.specs.Verdict.{Verdict}
use Rattle.semantics.specs.Edit as edits
use Rattle.site.specs.Layout.{site_bytes}
use Rattle.site.specs.Site.{site_of}
use Rattle.sheet.specs.Bytes.{edits_of}

-- the result has the bytes of the site that the whole sheet, of an edition, leaves
pub record SiteWritten (edition : ℕ) (site sheet result' : List ℕ) : Type 0 where
  pub size : length result' ≡ site_bytes
  pub bytes : Bytes result'
  pub effects : site_of result' ≡ edits.sheet (edits_of edition sheet) (site_of site)

-- the result after a verdict: the site that the whole sheet leaves; zeros where an input is refused
unfoldable pub SiteAfter : (edition : ℕ) → Verdict → (site sheet result result' : List ℕ) → Type 0
SiteAfter edition (Ok _) site sheet result result' = SiteWritten edition site sheet result'
SiteAfter edition (Err r) site sheet result result' = result' ≡ replicate (length result) 0
