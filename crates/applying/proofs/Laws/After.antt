-- The site after, as bytes of the stated length that are read as the effects of the sheet, is accepted.
use Rattle.std.specs.Prelude.{◌≡◌, true, List, ℕ, length}
use Rattle.std.proofs.Common.{sym, subst}
use Rattle.semantics.specs.Edit as edits
use Rattle.semantics.proofs.Laws.Edits.{sheet_valid}
use Rattle.verdict.specs.Verdict.{Accepted}
use Rattle.site.specs.Layout.{site_bytes}
use Rattle.site.specs.Site.{site_of}
use Rattle.site.specs.Refusal.{site_verdict}
use Rattle.site.proofs.Laws.Valid.{site_valid}
use Rattle.sheet.specs.Bytes.{edits_of}
use Rattle.sheet.specs.Refusal.{sheet_verdict}
use Rattle.sheet.proofs.Laws.Accepted.{accepted_sheet}

pub after_accepted : (edition : ℕ) (site sheet after : List ℕ) → site_verdict site ≡ Accepted → sheet_verdict sheet ≡ Accepted
    → edits.sheet_goes (edits_of edition sheet) (site_of site) ≡ true → length after ≡ site_bytes → site_of after ≡ edits.sheet (edits_of edition sheet) (site_of site)
    → site_verdict after ≡ Accepted
after_accepted edition site sheet after a b g l e =
    (site_valid after).1 (
      l,
      subst edits.Valid (sym e) (sheet_valid (edits_of edition sheet) (accepted_sheet edition sheet b).are_legal (site_of site) ((site_valid site).0 a).1 g),
    )
