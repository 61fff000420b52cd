-- What the entry points return for a row of the table of samples: from the bytes of its site, its condition and its sheet, in each known edition
-- that has its edits, with buffers of the stated lengths, whatever was in them, and under every limit on rounds up to the highest.
use Rattle.std.specs.Prelude.{◌≡◌, true, ◌||◌, List, [], ◌∷◌, ℕ, ◌≤◌, ◌<◌}
use Rattle.finite.specs.Bytes.{Bytes}
use Rattle.bitset.specs.Set.{Is}
use Rattle.samples.specs.Rows.{Slots, only, has, Expected, lists, stuck_at, odd_at, Row, table_name}
use Rattle.samples.specs.Said.{before, after}
use Rattle.verdict.specs.Verdict.{Accepted}
use Rattle.editions.specs.Edition.{second, edition_verdict}
use Rattle.site.specs.Site.{site_of}
use Rattle.condition.specs.Bytes as condition
use Rattle.sheet.specs.Bytes as sheet
use Rattle.sheet.specs.Bytes.{all_in_edition}
use Rattle.demands.specs.Demands.{ApplyCall, RewriteCall, ListCall, rewritten_table}
use Rattle.sample_bytes.specs.Write as site
use Rattle.sample_bytes.specs.Refused.{NotApplied, NotRewritten, NotListed}

-- ---- the row's pieces as bytes

abbrev pub site_in : Row → List ℕ
site_in r = site.bytes_of (before r)

abbrev pub table_in : Row → List ℕ
table_in r = condition.bytes_of r.table

abbrev pub sheet_in : Row → List ℕ
sheet_in r = sheet.bytes_of r.edits

-- the pieces are bytes, the site's are read as the row's site, and edition 1 or 2 has the row's edits
pub record SampleWritten (r : Row) : Type 0 where
  pub site_is_bytes : Bytes (site_in r)
  pub table_is_bytes : Bytes (table_in r)
  pub sheet_is_bytes : Bytes (sheet_in r)
  pub site_read : site_of (site_in r) ≡ before r
  pub has_edition : (all_in_edition 1 r.edits || all_in_edition second r.edits) ≡ true

-- ---- a row that lists a set

-- the call lists the slots of S alone, which are c, in n rounds
pub record Lists {site table : List ℕ} (call : ListCall site table) (S : Slots) (c n : ℕ) : Type 0 where
  pub reason_is : call.reason ≡ 0
  pub count_is : call.count ≡ c
  pub rounds_are : call.rounds ≡ n
  pub set_is : Is call.set' (has S)

-- so it does if its limit is n or more; below n it is refused with 15
pub record ListsWithin {site table : List ℕ} (call : ListCall site table) (S : Slots) (c n : ℕ) : Type 0 where
  pub within : n ≤ call.limit → Lists call S c n
  pub over : call.limit < n → NotListed call 15 0

-- a set S of c slots, after and today, k nodes, and a rounds after and t rounds today; each call of listing has a limit of its own
module _ (edition : ℕ) (r : Row) (S : Slots) (c k a t : ℕ) (applied : ApplyCall edition (site_in r) (sheet_in r))
    (rewrote : RewriteCall edition (table_in r) (sheet_in r)) (today : ListCall (site_in r) (rewritten_table rewrote)) (later : ListCall applied.result' (table_in r)) where
  pub record Answers : Type 0 where
    pub applies : applied.reason ≡ 0
    pub site_after : site_of applied.result' ≡ after r
    pub rewrites : rewrote.reason ≡ 0
    pub nodes_are : rewrote.nodes ≡ k
    pub lists_today : ListsWithin today S c t
    pub lists_after : ListsWithin later S c a
    -- where the condition is the name n and lists the slot p alone, that is the place of the name on the site after
    pub place_after : (n p : ℕ) → r.table ≡ table_name n → S ≡ only (p ∷ []) → (site_of applied.result').place n ≡ p

-- ---- every row

-- the set is listed, within the limit; or item 13 is met by the sheet; or item 9 by the condition, which neither lists nor is rewritten
abbrev pub Returns : (edition : ℕ) → Row → Expected → Type 0
Returns edition r (lists S c k a t) =
    (applied : ApplyCall edition (site_in r) (sheet_in r)) (rewrote : RewriteCall edition (table_in r) (sheet_in r))
    (today : ListCall (site_in r) (rewritten_table rewrote)) (later : ListCall applied.result' (table_in r))
    → Answers edition r S c k a t applied rewrote today later
Returns edition r (stuck_at w) = (call : ApplyCall edition (site_in r) (sheet_in r)) → NotApplied call 13 w
Returns edition r (odd_at w) =
    ((call : ListCall (site_in r) (table_in r)) → NotListed call 9 w)
    × ((call : RewriteCall edition (table_in r) (sheet_in r)) → NotRewritten call 9 w)

abbrev pub ReturnsInEach : Row → Type 0
ReturnsInEach r =
    (edition : ℕ) → edition_verdict edition ≡ Accepted → all_in_edition edition r.edits ≡ true → Returns edition r r.expected

-- each row of a list
abbrev pub AllReturned : List Row → Type 0
AllReturned [] = Unit {0}
AllReturned (r ∷ rs) = (SampleWritten r × ReturnsInEach r) × AllReturned rs
