-- The demands on the entry points together, over bytes. Demand 2: the rewritten condition lists today exactly what the condition lists
-- after the sheet, where neither list is refused with item 15. Demand 3: two slots have one class number after the sheet exactly if no closed
-- condition without slot numbers, of any length, rewritten through the sheet, tells them apart today.
use Rattle.std.specs.Prelude.{◌≡◌, ◌↔◌, ◌≢◌, true, List, ℕ, ◌*◌, ◌≤◌, ◌<◌, length, get_or, take}
use Rattle.bitset.specs.Set.{set_bytes}
use Rattle.verdict.specs.Verdict.{Accepted}
use Rattle.limits.specs.Limits.{slots, table_nodes, table_bytes, highest_limit}
use Rattle.semantics.specs.Holds.{Env, Distinguishes}
use Rattle.semantics.specs.Table.{Node, form_of, ClosedTable}
use Rattle.semantics.specs.Edit as edits
use Rattle.semantics.specs.Block.{rewrite_sheet}
use Rattle.site.specs.Layout.{site_bytes}
use Rattle.site.specs.Site.{site_of}
use Rattle.editions.specs.Edition.{edition_verdict}
use Rattle.site.specs.Refusal.{site_verdict}
use Rattle.condition.specs.Bytes.{table_of}
use Rattle.condition.specs.Refusal.{condition_verdict}
use Rattle.sheet.specs.Bytes.{edits_of}
use Rattle.sheet.specs.Refusal.{sheet_verdict}
use Rattle.rewriting.specs.Rewriting.{rewritten}
use Rattle.listing.specs.Listed.{work_bytes, Listed, found_of}
use Rattle.classes_entry.specs.Refusal.{classes_bytes}
use Rattle.desk.specs.Returned.{ReturnedList, ReturnedApply, ReturnedRewrite, ReturnedClasses}

-- ---- a call of each entry point: buffers of the stated lengths, a limit up to the highest, and whatever it returns and leaves in them ('). That
-- each call returns so is the contract of its export, which holds for all inputs

pub record ApplyCall (edition : ℕ) (site sheet : List ℕ) : Type 0 where
  pub result : List ℕ
  pub result' : List ℕ
  pub reason : ℕ
  pub fault : ℕ
  pub result_size : length result ≡ site_bytes
  pub returned : ReturnedApply edition site sheet result result' reason fault

pub record RewriteCall (edition : ℕ) (table sheet : List ℕ) : Type 0 where
  pub result : List ℕ
  pub result' : List ℕ
  pub reason : ℕ
  pub fault : ℕ
  pub nodes : ℕ
  pub result_size : length result ≡ table_bytes
  pub returned : ReturnedRewrite edition table sheet result result' reason fault nodes

pub record ListCall (site table : List ℕ) : Type 0 where
  pub limit : ℕ
  pub set : List ℕ
  pub set' : List ℕ
  pub work : List ℕ
  pub work' : List ℕ
  pub reason : ℕ
  pub fault : ℕ
  pub count : ℕ
  pub rounds : ℕ
  pub limit_fits : limit ≤ highest_limit
  pub set_size : length set ≡ set_bytes
  pub work_size : length work ≡ work_bytes
  pub returned : ReturnedList limit site table set set' work work' reason fault (found_of count rounds)

pub record ClassCall (site : List ℕ) : Type 0 where
  pub classes : List ℕ
  pub classes' : List ℕ
  pub reason : ℕ
  pub fault : ℕ
  pub count : ℕ
  pub classes_size : length classes ≡ classes_bytes
  pub returned : ReturnedClasses site classes classes' reason fault count

-- the table that rewriting gives: as many nodes as it counts, from the start of the result
abbrev pub rewritten_table : {edition : ℕ} {table sheet : List ℕ} → RewriteCall edition table sheet → List ℕ
rewritten_table r = take (6 * r.nodes) r.result'

-- ---- demand 2

-- an accepted site, and an accepted sheet of a known edition that goes through on it
pub record Going (edition : ℕ) (site sheet : List ℕ) : Type 0 where
  pub edition_accepted : edition_verdict edition ≡ Accepted
  pub site_accepted : site_verdict site ≡ Accepted
  pub sheet_accepted : sheet_verdict sheet ≡ Accepted
  pub goes_through : edits.sheet_goes (edits_of edition sheet) (site_of site) ≡ true

-- a site and a sheet that goes through on it, and an accepted condition whose rewritten table has at most 2,048 nodes. A table never gets
-- shorter, so that item 14 is then met after no edit
pub record Runnable (edition : ℕ) (site table sheet : List ℕ) : Type 0 where
  pub going : Going edition site sheet
  pub table_accepted : condition_verdict table ≡ Accepted
  pub table_fits : length (rewritten edition table sheet) ≤ table_nodes

-- what is to hold of the bytes: the site `changed` that the sheet leaves, the table `new_table` that rewriting through the sheet gives, and the
-- two lists, of that table on the site today, with t slots, and of the condition on the site after, with a slots
pub record ListsAgree (edition : ℕ) (site table sheet changed new_table today after : List ℕ) (t a : ℕ) : Type 0 where
  -- the two lists are the same 32 bytes, with the same count
  pub same_set : today ≡ after
  pub same_count : t ≡ a
  -- each slot of the lists is that of the semantics, today and on the site after
  pub today_listed : Listed (site_of site) (form_of (table_of new_table)) today t
  pub after_listed : Listed (site_of changed) (form_of (table_of table)) after a
  -- the rewritten table is the one of the blocks, and the site after has the effects of the whole sheet
  pub blocks : table_of new_table ≡ rewritten edition table sheet
  pub effects : site_of changed ≡ edits.sheet (edits_of edition sheet) (site_of site)

-- what is to hold of the four calls: the sheet applied to the site, the condition rewritten through it, the rewritten table listed on the
-- site today, and the condition listed on the site after
pub record SameLists {edition : ℕ} {site table sheet : List ℕ} (applied : ApplyCall edition site sheet) (rewrote : RewriteCall edition table sheet)
    (today : ListCall site (rewritten_table rewrote)) (after : ListCall applied.result' table) : Type 0 where
  -- no call refuses: listing accepts the rewritten table, and the site after. Their limits need not be the same
  pub applies : applied.reason ≡ 0
  pub rewrites : rewrote.reason ≡ 0
  pub lists_today : today.reason ≡ 0
  pub lists_after : after.reason ≡ 0
  pub agree : ListsAgree edition site table sheet applied.result' (rewritten_table rewrote) today.set' after.set' today.count after.count

unfoldable pub Demand2 : Type 0
Demand2 =
    (edition : ℕ) (site table sheet : List ℕ) → Runnable edition site table sheet
    → (applied : ApplyCall edition site sheet) (rewrote : RewriteCall edition table sheet)
    → (today : ListCall site (rewritten_table rewrote)) (after : ListCall applied.result' table) → today.reason ≢ 15 → after.reason ≢ 15
    → SameLists applied rewrote today after

-- ---- demand 3

-- some table of any length that has at least one node, meets neither item 8 nor item 9, is closed and has no node of kind 12
-- (`ClosedTable`), rewritten through the whole sheet, holds on the site before at one of the slots s and t and not at the other.
-- It is closed, so the valuation ρ does not matter
pub record Distinguished (edition : ℕ) (site sheet : List ℕ) (ρ : Env) (s t : ℕ) : Type 0 where
  pub table : List Node
  pub is_closed : ClosedTable table
  pub tells : Distinguishes (site_of site) ρ (form_of (rewrite_sheet (edits_of edition sheet) table)) s t

-- what is to hold of the class numbers after the sheet: two slots have one number exactly if they are not `Distinguished`
abbrev pub SameNumbers : (edition : ℕ) (site sheet classes : List ℕ) → Type 0
SameNumbers edition site sheet classes =
    (ρ : Env) (s t : ℕ) → s < slots → t < slots → (get_or classes s 0 ≡ get_or classes t 0) ↔ ¬ Distinguished edition site sheet ρ s t

-- what is to hold of the two calls: the sheet applied to the site, and the slots of the site that it leaves numbered
pub record SameClasses {edition : ℕ} {site sheet : List ℕ} (applied : ApplyCall edition site sheet) (numbered : ClassCall applied.result') : Type 0 where
  -- no call refuses
  pub applies : applied.reason ≡ 0
  pub numbers : numbered.reason ≡ 0
  pub same_numbers : SameNumbers edition site sheet numbered.classes'

unfoldable pub Demand3 : Type 0
Demand3 =
    (edition : ℕ) (site sheet : List ℕ) → Going edition site sheet
    → (applied : ApplyCall edition site sheet) (numbered : ClassCall applied.result') → SameClasses applied numbered
