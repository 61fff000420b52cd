-- Which inputs applying refuses: the items of docs/SPEC.md, "Reasons", in their order.
use Rattle.std.specs.Prelude.{List, ℕ}
use Rattle.verdict.specs.Verdict.{Verdict, ◌then◌}
use Rattle.site.specs.Layout.{site_bytes}
use Rattle.site.specs.Site.{site_of}
use Rattle.site.specs.Refusal.{site_verdict}
use Rattle.editions.specs.Edition.{edition_verdict}
use Rattle.sheet.specs.Bytes.{edits_of}
use Rattle.sheet.specs.Refusal.{sheet_verdict}
use Rattle.applying.specs.Refusal.{goes_verdict}
use Rattle.refusals.specs.Refusal.{buffer_verdict}

-- applying: 1, then 18, then 3 to 6, then 11 and 12, then 13
unfoldable pub apply_verdict : (edition result_len : ℕ) (site sheet : List ℕ) → Verdict
apply_verdict edition result_len site sheet =
    buffer_verdict result_len site_bytes
    then edition_verdict edition then site_verdict site then sheet_verdict sheet then goes_verdict (edits_of edition sheet) (site_of site)
