-- The demands are met.
use Rattle.std.specs.Prelude.{◌≡◌, ◌≢◌, true, false, List, ◌++◌, ℕ, ◌*◌, ◌-◌, ◌<◌, length, get_or, replicate}
use Rattle.std.proofs.Common.{◌∙◌, ap, arith}
use Rattle.std.proofs.Math.Logic.Iff
use Rattle.verdict.specs.Verdict.{Accepted, reason_of}
use Rattle.limits.specs.Limits.{slots, table_bytes}
use Rattle.semantics.specs.Table.{form_of}
use Rattle.semantics.specs.Edit as edits
use Rattle.semantics.specs.Bisimulation.{IsClass}
use Rattle.semantics.proofs.Laws.Demands.{class_undistinguished}
use Rattle.semantics.specs.Block.{rewrite_table}
use Rattle.site.specs.Site.{site_of}
use Rattle.site.specs.Refusal.{site_verdict}
use Rattle.site.proofs.Laws.Valid.{site_valid}
use Rattle.condition.specs.Bytes.{table_of, bytes_of}
use Rattle.condition.specs.Refusal.{condition_verdict}
use Rattle.condition.proofs.Laws.Bytes.{length_table}
use Rattle.condition.proofs.Laws.Verdict.{accepted_sound}
use Rattle.sheet.specs.Bytes.{edits_of}
use Rattle.sheet.proofs.Laws.Accepted.{accepted_sheet}
use Rattle.applying.proofs.Laws.After.{after_accepted}
use Rattle.classes_entry.specs.Refusal.{classes_verdict}
use Rattle.classes_entry.specs.Classing.{ClassesAfter}
use Rattle.rewriting.proofs.Laws.Accepted.{taken_table, rewritten_accepted}
use Rattle.refusals.specs.Refusal.{rounds_verdict}
use Rattle.refusals.proofs.Laws.Items.{rounds_else}
use Rattle.listing.specs.Listed.{Listed, found_of}
use Rattle.listing.proofs.Laws.Same.{same_lists}
use Rattle.list_entry.specs.Refusal.{list_inputs, list_verdict}
use Rattle.list_entry.specs.Listing.{SiteMakes, SetAfter}
use Rattle.apply_entry.specs.Refusal.{apply_verdict}
use Rattle.apply_entry.specs.Applying.{SiteWritten, SiteAfter}
use Rattle.rewrite_entry.specs.Refusal.{rewrite_verdict}
use Rattle.rewriting.specs.Refusal.{is_too_long}
use Rattle.rewriting.specs.Rewriting.{rewritten}
use Rattle.demands.specs.Demands.{ApplyCall, RewriteCall, ListCall, rewritten_table, Runnable, ListsAgree, SameLists, Demand2, Going, Demand3, ClassCall, SameClasses}
use Rattle.demands.proofs.Laws.Accepted.{fits_short, reason_none, same-makes, table_left, list_accepted, apply_accepted, rewrite_accepted, classes_accepted}

-- ---- listing an accepted condition on an accepted site

module _ {site table : List ℕ} (a : site_verdict site ≡ Accepted) (b : condition_verdict table ≡ Accepted) (c : ListCall site table) where
  pub list_inputs_lem : list_inputs (length c.set) (length c.work) c.limit site table ≡ Accepted
  list_inputs_lem =
      list_accepted (length c.set) (length c.work) c.limit site table
      (record { set_size = c.set_size; work_size = c.work_size; limit_fits = c.limit_fits; site_accepted = a; table_accepted = b })

  -- where it makes n rounds, nothing but item 15 is left to test
  pub list_due_lem : (n : ℕ) → SiteMakes site table n
      → list_verdict (length c.set) (length c.work) c.limit site table c.returned.made ≡ rounds_verdict c.limit n
  unfolding list_verdict
  list_due_lem n m = rw (list_inputs_lem, same-makes (site_of site) (form_of (table_of table)) c.returned.made n (c.returned.makes list_inputs_lem) m)

  module _ (h : c.reason ≢ 15) where
    list_goes : list_verdict (length c.set) (length c.work) c.limit site table c.returned.made ≡ Accepted
    list_goes =
        let d = list_due_lem c.returned.made (c.returned.makes list_inputs_lem) in
        d ∙ rounds_else c.limit c.returned.made (λ e. h (c.returned.returned.reason_is ∙ ap reason_of d ∙ e))

    pub list_reason : c.reason ≡ 0
    list_reason = reason_none list_goes c.returned.returned

    pub list_set : SetAfter Accepted site table c.set c.set' (found_of c.count c.rounds)
    list_set = (rw list_goes at c.returned.returned.left).set_after

    pub listed : Listed (site_of site) (form_of (table_of table)) c.set' c.count
    unfolding SetAfter
    listed = list_set.0

-- ---- a sheet that goes through

module _ {edition : ℕ} {site sheet : List ℕ} (j : Going edition site sheet) where
  legal : edits.sheet_legal (edits_of edition sheet) ≡ true
  legal = (accepted_sheet edition sheet j.sheet_accepted).are_legal

  valid : edits.Valid (site_of site)
  valid = ((site_valid site).0 j.site_accepted).1

  module _ (c : ApplyCall edition site sheet) where
    apply_goes : apply_verdict edition (length c.result) site sheet ≡ Accepted
    apply_goes =
        apply_accepted edition (length c.result) site sheet
        (record {
          result_size = c.result_size;
          edition_accepted = j.edition_accepted;
          site_accepted = j.site_accepted;
          sheet_accepted = j.sheet_accepted;
          goes = j.goes_through;
        })

    pub apply_reason : c.reason ≡ 0
    apply_reason = reason_none apply_goes c.returned

    pub site_left : SiteWritten edition site sheet c.result'
    unfolding SiteAfter
    site_left = rw apply_goes at c.returned.left

    pub left_accepted : site_verdict c.result' ≡ Accepted
    left_accepted =
        after_accepted edition site sheet c.result' j.site_accepted j.sheet_accepted j.goes_through site_left.size site_left.effects

module _ {edition : ℕ} {site table sheet : List ℕ} (j : Runnable edition site table sheet) where
  -- ---- rewriting

  short : is_too_long rewrite_table (edits_of edition sheet) (table_of table) ≡ false
  short = fits_short edition table sheet j.table_accepted (omega (arith, j.table_fits))

  module _ (c : RewriteCall edition table sheet) where
    rewrite-goes : rewrite_verdict edition (length c.result) table sheet ≡ Accepted
    rewrite-goes =
        rewrite_accepted edition (length c.result) table sheet
        (record {
          result_size = c.result_size;
          edition_accepted = j.going.edition_accepted;
          table_accepted = j.table_accepted;
          sheet_accepted = j.going.sheet_accepted;
          short = short;
        })

    pub rewrite_reason : c.reason ≡ 0
    rewrite_reason = reason_none rewrite-goes c.returned

    pub written : (c.nodes ≡ length (rewritten edition table sheet)) × (c.result' ≡ bytes_of (rewritten edition table sheet) ++ replicate (table_bytes - 6 * c.nodes) 0)
    written = table_left (rewritten edition table sheet) c.result c.result' rewrite-goes c.returned

    pub table_accepted : condition_verdict (rewritten_table c) ≡ Accepted
    table_accepted =
        rewritten_accepted edition table sheet j.table_accepted j.going.sheet_accepted short _ c.result' c.nodes written.0 written.1

    pub is_rewritten : table_of (rewritten_table c) ≡ rewritten edition table sheet
    is_rewritten = taken_table (rewritten edition table sheet) _ c.result' c.nodes written.0 written.1

  -- ---- both lists

  pub lists_agree : {changed new_table today after : List ℕ} {t a : ℕ} → table_of new_table ≡ rewritten edition table sheet
      → site_of changed ≡ edits.sheet (edits_of edition sheet) (site_of site)
      → Listed (site_of site) (form_of (table_of new_table)) today t → Listed (site_of changed) (form_of (table_of table)) after a
      → ListsAgree edition site table sheet changed new_table today after t a
  lists_agree is_new effects p q =
      let s = accepted_sound table j.table_accepted in
      let e =
      same_lists
      (edits_of edition sheet) (legal j.going) (site_of site) (valid j.going) j.going.goes_through
      (table_of table) s.fits (omega (arith, s.some, length_table table))
      (rw is_new at p) (rw effects at q)
      in
      record { same_set = e.0; same_count = e.1; today_listed = p; after_listed = q; blocks = is_new; effects = effects }

  both_lists : (a : ApplyCall edition site sheet) (r : RewriteCall edition table sheet) (t : ListCall site (rewritten_table r)) (u : ListCall a.result' table)
      → t.reason ≢ 15 → u.reason ≢ 15 → SameLists a r t u
  both_lists a r t u h k =
      let new_site = left_accepted j.going a in
      record {
        applies = apply_reason j.going a;
        rewrites = rewrite_reason r;
        lists_today = list_reason j.going.site_accepted (table_accepted r) t h;
        lists_after = list_reason new_site j.table_accepted u k;
        agree =
            lists_agree (is_rewritten r) (site_left j.going a).effects
            (listed j.going.site_accepted (table_accepted r) t h) (listed new_site j.table_accepted u k);
      }

pub demand_2 : Demand2
unfolding Demand2
demand_2 edition site table sheet j a r t u h k = both_lists j a r t u h k

-- ---- classes

module _ {edition : ℕ} {site sheet : List ℕ} (j : Going edition site sheet) (a : ApplyCall edition site sheet) (n : ClassCall a.result') where
  numbered : classes_verdict (length n.classes) a.result' ≡ Accepted
  numbered = classes_accepted (length n.classes) a.result' (record { classes_size = n.classes_size; site_accepted = left_accepted j a })

  classes_left : (x : ℕ) → x < slots → IsClass (edits.sheet (edits_of edition sheet) (site_of site)) x (get_or n.classes' x 0)
  unfolding ClassesAfter
  classes_left x l = let c = rw numbered at n.returned.left in rw (site_left j a).effects at (c.0.each x l)

  same_classes : SameClasses a n
  same_classes =
      record {
        applies = apply_reason j a;
        numbers = reason_none numbered n.returned;
        same_numbers = λ ρ s t h k.
            Iff.trans
            (class_undistinguished
            (edits_of edition sheet) (legal j) (site_of site) (valid j) j.goes_through ρ s t (get_or n.classes' s 0) (get_or n.classes' t 0) h k
            (classes_left s h) (classes_left t k))
            (λ n z. n (z.table, z.is_closed, z.tells), λ n z. n (record { table = z.0; is_closed = z.1; tells = z.2 }));
      }

pub demand_3 : Demand3
unfolding Demand3
demand_3 edition site sheet j a n = same_classes j a n
