-- Inputs that applying does not refuse.
use Rattle.std.specs.Prelude.{◌≡◌, true, List, ℕ}
use Rattle.verdict.specs.Verdict.{Accepted}
use Rattle.site.specs.Layout.{site_bytes}
use Rattle.site.specs.Site.{site_of}
use Rattle.site.specs.Refusal.{site_verdict}
use Rattle.editions.specs.Edition.{edition_verdict}
use Rattle.sheet.specs.Bytes.{edits_of}
use Rattle.sheet.specs.Refusal.{sheet_verdict}
use Rattle.semantics.specs.Edit.{sheet_goes}

pub record Appliable (edition result_len : ℕ) (site sheet : List ℕ) : Type 0 where
  pub result_size : result_len ≡ site_bytes
  pub edition_accepted : edition_verdict edition ≡ Accepted
  pub site_accepted : site_verdict site ≡ Accepted
  pub sheet_accepted : sheet_verdict sheet ≡ Accepted
  pub goes : sheet_goes (edits_of edition sheet) (site_of site) ≡ true
