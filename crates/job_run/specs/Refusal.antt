-- Which pieces of a job are refused: the items of docs/SPEC.md, "Reasons", in their order.
use Rattle.std.specs.Prelude.{List, ℕ}
use Rattle.verdict.specs.Verdict.{Verdict, ◌then◌}
use Rattle.semantics.specs.Block.{rewrite_table}
use Rattle.site.specs.Site.{site_of}
use Rattle.site.specs.Refusal.{site_verdict}
use Rattle.condition.specs.Bytes.{table_of}
use Rattle.condition.specs.Refusal.{condition_verdict}
use Rattle.sheet.specs.Bytes.{edits_of}
use Rattle.sheet.specs.Refusal.{sheet_verdict}
use Rattle.applying.specs.Refusal.{goes_verdict}
use Rattle.rewriting.specs.Refusal.{length_verdict}
use Rattle.refusals.specs.Refusal.{rounds_verdict}

-- 3 to 6 of the site, 7 to 10 of the condition, 11 and 12 of the sheet, then 13, then 14
unfoldable pub pieces_verdict : (edition : ℕ) (site cond sheet : List ℕ) → Verdict
pieces_verdict edition site cond sheet =
    site_verdict site
    then condition_verdict cond
    then sheet_verdict sheet
    then goes_verdict (edits_of edition sheet) (site_of site)
    then length_verdict rewrite_table (edits_of edition sheet) (table_of cond)

-- then 15, where the lists make a rounds on the site after and t today: each has the whole limit
abbrev pub lists_verdict : (limit a t : ℕ) → Verdict
lists_verdict limit a t = rounds_verdict limit a then rounds_verdict limit t
