-- The verdicts on a row's pieces.
use Rattle.std.specs.Prelude.{◌≡◌, refl, List, [], ◌∷◌, true, false, not, ℕ, zero, suc, ◌≤◌, ◌<◌, length, get_or, take, Err}
use Rattle.std.proofs.Common.{sym, ◌∙◌, subst, arith, ap}
use Rattle.finite.specs.Tests.{below, first}
use Rattle.finite.proofs.Laws.Bools.{and_l, and_r}
use Rattle.finite.proofs.Laws.Below.{below_in}
use Rattle.verdict.specs.Verdict.{Accepted}
use Rattle.verdict.specs.declared.Refusal.TheVariants.{EvenRule, NotThrough}
use Rattle.semantics.specs.Holds.{Model}
use Rattle.semantics.specs.Table.{Node, tree_at, form_of, nodes_fit, even_table}
use Rattle.semantics.specs.Form.{even, closed}
use Rattle.semantics.specs.Block.{rewrite_sheet}
use Rattle.semantics.specs.Edit as edits
use Rattle.semantics.specs.Edit.{Edit, DS, edit, goes, sheet_goes, Valid}
use Rattle.samples.specs.Rows.{Slots, Row}
use Rattle.samples.specs.Said.{before, Sound, Lists, Stuck, Odd}
use Rattle.site.specs.Site.{site_of}
use Rattle.site.specs.Refusal.{site_verdict}
use Rattle.site.proofs.Laws.Valid.{site_valid}
use Rattle.condition.specs.Bytes as condition
use Rattle.condition.specs.Bytes.{table_of}
use Rattle.condition.specs.Refusal.{size_fits, first_unfit, first_uneven, condition_verdict}
use Rattle.condition.proofs.Laws.Bytes.{length-bytes, table_back_lem}
use Rattle.condition.proofs.Laws.Fits.{fit_none}
use Rattle.condition.proofs.Laws.Verdict.{size_in, item_9, bytes_accepted}
use Rattle.sheet.specs.Bytes.{edits_of, all_in_edition}
use Rattle.sheet.specs.Refusal.{sheet_verdict}
use Rattle.sheet.proofs.Laws.Read.{edits-back}
use Rattle.sheet.proofs.Laws.Accepted.{sheet_accepted}
use Rattle.applying.specs.Stuck.{stuck_at}
use Rattle.applying.specs.Refusal.{goes_verdict}
use Rattle.limits.specs.Limits.{table_nodes}
use Rattle.sample_bytes.specs.Said.{site_in, table_in, sheet_in}
use Rattle.sample_bytes.proofs.Laws.Write as write
use Rattle.sample_bytes.proofs.Laws.Rows.{Fits}

-- ---- a table's bytes

module _ (xs : List Node) (some : 0 < length xs) (few : length xs ≤ table_nodes) (fits : nodes_fit 0 xs ≡ true) where
  size_ok : size_fits (length (condition.bytes_of xs)) ≡ true
  size_ok = let n = length-bytes xs in size_in _ (omega arith) (omega arith) (omega arith)

  fields_ok : below (first_unfit (condition.bytes_of xs)) (length (table_of (condition.bytes_of xs))) ≡ false
  fields_ok = fit_none (condition.bytes_of xs) (rw (table_back_lem xs) fits)

  pub table_accepted : even_table xs ≡ true → closed (form_of xs) ≡ true → condition_verdict (condition.bytes_of xs) ≡ Accepted
  table_accepted = bytes_accepted xs some few fits

  pub table_odd : (w : ℕ) → w < length xs → first (length xs) (λ i. not (even (tree_at xs i))) ≡ w
      → condition_verdict (condition.bytes_of xs) ≡ Err (EvenRule w)
  unfolding first_uneven
  table_odd w h e =
      let back = table_back_lem xs in
      let q : first_uneven (condition.bytes_of xs) ≡ w = rw back e in
      item_9 (condition.bytes_of xs) size_ok fields_ok (rw (q, back) (below_in w (length xs) h)) ∙ ap (λ (w : ℕ). Err (EvenRule w)) q

-- ---- a sheet that is stuck

stuck_is : (es : List Edit) (M : Model) (w : ℕ) → w < length es → sheet_goes (take w es) M ≡ true
    → goes (get_or es w (DS 0)) (edits.sheet (take w es) M) ≡ false → (stuck_at es M ≡ w) × (sheet_goes es M ≡ false)
unfolding stuck_at sheet_goes edits.sheet
stuck_is [] M w h g s = absurd (omega arith)
stuck_is (e ∷ es) M zero h g s = (rw s, rw s)
stuck_is (e ∷ es) M (suc w) h g s =
    let q = and_l (goes e M) _ g in
    let r = stuck_is es (edit e M) w (omega arith) (and_r (goes e M) _ g) s in
    (rw q (ap suc r.0), rw q r.1)

pub stuck_refused : (es : List Edit) (M : Model) (w : ℕ) → w < length es → sheet_goes (take w es) M ≡ true
    → goes (get_or es w (DS 0)) (edits.sheet (take w es) M) ≡ false → goes_verdict es M ≡ Err (NotThrough w)
unfolding goes_verdict
stuck_refused es M w h g s = let r = stuck_is es M w h g s in rw (r.1, r.0)

-- ---- the row

module _ (r : Row) (o : Sound r) (f : Fits r) where
  pub site_read : site_of (site_in r) ≡ before r
  site_read = write.read_back (before r) o.valid f.range

  pub site_ok : site_verdict (site_in r) ≡ Accepted
  site_ok = (site_valid (site_in r)).1 (write.length-bytes (before r), subst Valid (sym site_read) o.valid)

  pub table_read : table_of (table_in r) ≡ r.table
  table_read = table_back_lem r.table

  pub table_ok : {S : Slots} {c k a t : ℕ} → Lists r S c k a t → condition_verdict (table_in r) ≡ Accepted
  table_ok l = table_accepted r.table o.some_node f.few_nodes o.fits l.even_rule o.is_closed

  -- in an edition that has the row's edits
  module _ (edition : ℕ) (i : all_in_edition edition r.edits ≡ true) where
    pub sheet_read : edits_of edition (sheet_in r) ≡ r.edits
    sheet_read = edits-back edition r.edits i

    pub sheet_ok : sheet_verdict (sheet_in r) ≡ Accepted
    sheet_ok =
        sheet_accepted edition (sheet_in r) r.edits (record { bytes = refl; are_legal = o.legal_sheet; of_edition = i; few = f.few_edits })

    module _ {S : Slots} {c k a t : ℕ} (l : Lists r S c k a t) where
      pub goes_ok : sheet_goes (edits_of edition (sheet_in r)) (site_of (site_in r)) ≡ true
      goes_ok = rw (sheet_read, site_read) l.goes_through

      pub fits_ok : k ≤ table_nodes → length (rewrite_sheet (edits_of edition (sheet_in r)) (table_of (table_in r))) ≤ table_nodes
      fits_ok h = rw (sheet_read, table_read) (omega (arith, l.node_count))

    pub goes_stuck : {w : ℕ} → Stuck r w → goes_verdict (edits_of edition (sheet_in r)) (site_of (site_in r)) ≡ Err (NotThrough w)
    goes_stuck {w} s = rw (sheet_read, site_read) (stuck_refused r.edits (before r) w s.inside s.others_go s.stuck)

  pub table_refused : {w : ℕ} → Odd r w → condition_verdict (table_in r) ≡ Err (EvenRule w)
  table_refused {w} d = table_odd r.table o.some_node f.few_nodes o.fits w d.inside d.lowest
