-- The checks before item 15 never refuse with 15, 16 or 17: their items are 2 to 14 and 18. (Items 1 and 16 do not come up where buffers and limit
-- are as stated.)
use Rattle.std.specs.Prelude.{◌≡◌, refl, ◌≢◌, Bool, false, not, cond, List, ℕ, ◌-◌, ◌/◌, ◌≤◌, ◌<◌, true, length, Err, Ok}
use Rattle.std.proofs.Common.{arith}
use Rattle.finite.specs.Tests.{same, below, first}
use Rattle.finite.proofs.Laws.Bools.{either, look}
use Rattle.verdict.specs.Verdict.{Verdict, Accepted, number_of, reason_of, ◌then◌}
use Rattle.verdict.specs.declared.Refusal.{Refusal}
use Rattle.verdict.specs.declared.Refusal.TheVariants.{File, SiteLength, Names, Labels, Links, ConditionLength, MalformedNode, EvenRule, FreeVariable, SheetLength, MalformedEdit, NotThrough, TableFull, Rounds, Edition}
use Rattle.semantics.specs.Form.{closed}
use Rattle.semantics.specs.Holds.{Model}
use Rattle.semantics.specs.Edit.{Edit, sheet_goes}
use Rattle.semantics.specs.Table.{Node, form_of}
use Rattle.semantics.specs.Block.{Pass, rewrite_table}
use Rattle.editions.specs.Edition.{known, edition_verdict}
use Rattle.site.specs.Layout.{site_bytes}
use Rattle.site.specs.Site.{site_of}
use Rattle.site.specs.Refusal.{item4, item5, item6, site_verdict}
use Rattle.condition.specs.Bytes.{table_of}
use Rattle.condition.specs.Refusal.{size_fits, first_unfit, first_uneven, nodes_verdict, even_verdict, closed_verdict, condition_verdict}
use Rattle.sheet.specs.Bytes.{edits_of}
use Rattle.sheet.specs.Refusal.{faulty, sized, sheet_verdict}
use Rattle.applying.specs.Stuck.{stuck_at}
use Rattle.applying.specs.Refusal.{goes_verdict}
use Rattle.rewriting.specs.Refusal.{is_too_long, length_verdict}
use Rattle.trailer.specs.Refusal.{item2, edition_in, trailer_verdict}
use Rattle.trailer.specs.Pieces.{site_in, condition_in, sheet_in}
use Rattle.refusals.specs.Refusal.{rounds_verdict}
use Rattle.list_entry.specs.Refusal.{pair_verdict}
use Rattle.job_run.specs.Refusal.{pieces_verdict}

-- a verdict that does not refuse with item k
pub record Never (k : ℕ) (v : Verdict) : Type 0 where
  pub never : reason_of v ≢ k

accepts : {k : ℕ} → 0 < k → Never k Accepted
accepts h = record { never = λ e. absurd (omega (arith, e)) }

other : {k : ℕ} (b : Bool) (r : Refusal) (v : Verdict) → number_of r ≢ k → Never k v → Never k (cond b (Err r) v)
other true r v h i = record { never = h }
other false r v h i = i

pub never_then : {k : ℕ} (v w : Verdict) → Never k v → Never k w → Never k (v then w)
never_then (Ok _) w h i = i
never_then (Err r) w h i = h

-- an item that v never refuses with is met after v only where v accepts
pub not_early : {k : ℕ} (v w : Verdict) → Never k v → reason_of (v then w) ≡ k → v ≡ Accepted
not_early (Ok _) w h e = refl
not_early (Err r) w h e = absurd (h.never e)

pub rounds_item : {k : ℕ} (limit n : ℕ) → 15 < k → Never k (rounds_verdict limit n)
unfolding rounds_verdict
rounds_item limit n h = other (below limit n) Rounds Accepted (λ e. absurd (omega (arith, e, h))) (accepts (omega (arith, h)))

-- ---- the items of a job

abbrev pub job_items : (file : List ℕ) → Verdict
job_items file = trailer_verdict file then pieces_verdict (edition_in file) (site_in file) (condition_in file) (sheet_in file)

-- ---- the checks one by one, for an item over 14

module _ {k : ℕ} (late : 14 < k) where
  none : Never k Accepted
  none = accepts (omega (arith, late))

  item : (b : Bool) (r : Refusal) (v : Verdict) → number_of r ≤ 14 → Never k v → Never k (cond b (Err r) v)
  item b r v h i = other b r v (λ e. absurd (omega (arith, e, h, late))) i

  pub site_items : (S : List ℕ) → Never k (site_verdict S)
  unfolding site_verdict
  site_items S =
      item (not (same (length S) site_bytes)) SiteLength _ (omega arith)
      (item (item4 (site_of S)) Names _ (omega arith)
      (item (item5 (site_of S)) Labels _ (omega arith) (item (item6 (site_of S)) Links _ (omega arith) none)))

  pub condition_items : (S : List ℕ) → Never k (condition_verdict S)
  unfolding condition_verdict nodes_verdict even_verdict closed_verdict
  condition_items S =
      let n = length (table_of S) in
      let nodes =
      item (not (size_fits (length S))) ConditionLength _ (omega arith) (item (below (first_unfit S) n) (MalformedNode (first_unfit S)) _ (omega arith) none) in
      let rule = item (below (first_uneven S) n) (EvenRule (first_uneven S)) _ (omega arith) none in
      let shut = item (not (closed (form_of (table_of S)))) (FreeVariable (n - 1)) _ (omega arith) none in
      never_then (nodes_verdict S) _ nodes (never_then (even_verdict S) (closed_verdict S) rule shut)

  pub sheet_items : (s : List ℕ) → Never k (sheet_verdict s)
  unfolding sheet_verdict
  sheet_items s =
      let n = length s / 4 in
      let w = first n (faulty s) in
      either
      (look (sized s))
      (λ e. rw e (item (below w n) (MalformedEdit w) Accepted (omega arith) none))
      (λ e. rw e (item true SheetLength Accepted (omega arith) none))

  pub goes_items : (es : List Edit) (M : Model) → Never k (goes_verdict es M)
  unfolding goes_verdict
  goes_items es M = item (not (sheet_goes es M)) (NotThrough (stuck_at es M)) Accepted (omega arith) none

  pub length_items : (pass : Pass) (es : List Edit) (xs : List Node) → Never k (length_verdict pass es xs)
  unfolding length_verdict
  length_items pass es xs = item (is_too_long pass es xs) TableFull Accepted (omega arith) none

  pub pieces_items : (edition : ℕ) (site table sheet : List ℕ) → Never k (pieces_verdict edition site table sheet)
  unfolding pieces_verdict
  pieces_items edition site table sheet =
      let es = edits_of edition sheet in
      never_then (site_verdict site) _ (site_items site)
      (never_then (condition_verdict table) _ (condition_items table)
      (never_then (sheet_verdict sheet) _ (sheet_items sheet)
      (never_then (goes_verdict es (site_of site)) (length_verdict rewrite_table es (table_of table)) (goes_items es (site_of site))
      (length_items rewrite_table es (table_of table)))))

  -- ---- listing, and the job: all their items but 1, 15 and 16

  pub list_early : (site table : List ℕ) → Never k (pair_verdict site table)
  list_early site table = never_then (site_verdict site) (condition_verdict table) (site_items site) (condition_items table)

  pub job_early : k < 18 → (file : List ℕ) → Never k (job_items file)
  unfolding trailer_verdict edition_verdict
  job_early h file =
      never_then (trailer_verdict file) _
      (item (item2 file) File _ (omega arith) (other (not (known (edition_in file))) Edition Accepted (λ e. absurd (omega (arith, e, h))) none))
      (pieces_items (edition_in file) (site_in file) (condition_in file) (sheet_in file))
