-- The demand on the condition for going through, over bytes: for every accepted site and accepted sheet whose table fits, listing accepts the table
-- under every limit, and makes no round; its list is all slots exactly if applying the sheet is not refused, and no slot exactly if it is, with
-- item 13.
use Rattle.std.specs.Prelude.{◌≡◌, ◌⊎◌, ◌↔◌, List, ℕ, ◌*◌, ◌≤◌, length, take, replicate}
use Rattle.bitset.specs.Set.{set_bytes}
use Rattle.verdict.specs.Verdict.{Accepted}
use Rattle.limits.specs.Limits.{slots, table_nodes, table_bytes}
use Rattle.through.specs.Through.{through}
use Rattle.editions.specs.Edition.{edition_verdict}
use Rattle.site.specs.Refusal.{site_verdict}
use Rattle.sheet.specs.Bytes.{edits_of}
use Rattle.sheet.specs.Refusal.{sheet_verdict}
use Rattle.desk.specs.Returned.{ReturnedThrough}
use Rattle.demands.specs.Demands.{ApplyCall, ListCall}

-- a call that makes the table: a buffer of the stated length, and whatever is returned and left in it (')
pub record ThroughCall (edition : ℕ) (sheet : List ℕ) : Type 0 where
  pub result : List ℕ
  pub result' : List ℕ
  pub reason : ℕ
  pub fault : ℕ
  pub nodes : ℕ
  pub result_size : length result ≡ table_bytes
  pub returned : ReturnedThrough edition sheet result result' reason fault nodes

-- the table that it gives: as many nodes as it counts, from the start of the result
abbrev pub through_table : {edition : ℕ} {sheet : List ℕ} → ThroughCall edition sheet → List ℕ
through_table c = take (6 * c.nodes) c.result'

-- an accepted site, and an accepted sheet of a known edition whose table has at most 2,048 nodes. A table never gets shorter, so that item 14 is then met after no edit
pub record Foreseeable (edition : ℕ) (site sheet : List ℕ) : Type 0 where
  pub edition_accepted : edition_verdict edition ≡ Accepted
  pub site_accepted : site_verdict site ≡ Accepted
  pub sheet_accepted : sheet_verdict sheet ≡ Accepted
  pub table_fits : length (through (edits_of edition sheet)) ≤ table_nodes

-- what is to hold of the three calls, under every limit: the table made from the sheet alone, the table listed on the site, and the sheet applied
-- to the site
pub record Foretold {edition : ℕ} {site sheet : List ℕ} (made : ThroughCall edition sheet) (listed : ListCall site (through_table made)) (applied : ApplyCall edition site sheet)
    : Type 0 where
  -- neither of the first two is refused, and the third is not, or with item 13
  pub makes : made.reason ≡ 0
  pub lists : listed.reason ≡ 0
  pub no_round : listed.rounds ≡ 0
  pub goes_or_not : (applied.reason ≡ 0) ⊎ (applied.reason ≡ 13)
  pub all_listed : (applied.reason ≡ 0) ↔ ((listed.set' ≡ replicate set_bytes 255) × (listed.count ≡ slots))
  pub none_listed : (applied.reason ≡ 13) ↔ ((listed.set' ≡ replicate set_bytes 0) × (listed.count ≡ 0))

unfoldable pub DemandThrough : Type 0
DemandThrough =
    (edition : ℕ) (site sheet : List ℕ) → Foreseeable edition site sheet
    → (made : ThroughCall edition sheet) (listed : ListCall site (through_table made)) (applied : ApplyCall edition site sheet) → Foretold made listed applied
