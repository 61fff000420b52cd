-- Names 0 to 47: what holds of every name below the limit, with the limit's number written out.
use Rattle.std.specs.Prelude.{◌≡◌, ◌≢◌, true, false, not, List, [], ◌∷◌, ℕ, ◌≤◌, ◌<◌, length, get_or, refl, Err}
use Rattle.std.proofs.Common.{◌∙◌, ap, arith}
use Rattle.finite.specs.Tests.{same, below, all}
use Rattle.finite.proofs.Laws.Bools.{both, clash, no_true}
use Rattle.finite.proofs.Laws.Below.{same_eq, eq_same, ne_same, below_in, below-not}
use Rattle.finite.proofs.Laws.First.{first_is, none_start}
use Rattle.bitset.specs.Set.{Is}
use Rattle.limits.specs.Limits.{slots, names}
use Rattle.verdict.specs.Verdict.{Accepted}
use Rattle.verdict.specs.declared.Refusal.TheVariants.{SiteLength, MalformedNode}
use Rattle.semantics.specs.Form.{closed, free, even, occ}
use Rattle.semantics.specs.Holds.{Env, Model, Holds, Distinguishes}
use Rattle.semantics.specs.Bisimulation.{Bisimilar}
use Rattle.semantics.specs.Table.{kind_of, kind_no, atom, build, tree, trees, tree_at, form_of, leaf_fits, kind_fits, node_fits, nodes_fit, even_table, slot_free, ClosedTable}
use Rattle.semantics.specs.Edit.{Edit, CN1, CN2, AP, DP, AT, RT, DT1, DT2, AS, DS, functional, legal, sheet_legal}
use Rattle.semantics.specs.Block.{rewrite_sheet}
use Rattle.semantics.specs.FixedPoint.{none}
use Rattle.rounds.proofs.Laws.Loopless.{no_loop, loopless}
use Rattle.samples.specs.Site.{each}
use Rattle.samples.specs.Rows.{table_name}
use Rattle.site.specs.Site.{site_of}
use Rattle.site.specs.Refusal.{site_verdict}
use Rattle.site.proofs.Laws.Read.{place_is}
use Rattle.site.proofs.Laws.Valid.{wrong_length, site_valid}
use Rattle.condition.specs.Bytes as condition
use Rattle.condition.specs.Refusal.{first_unfit, condition_verdict}
use Rattle.condition.proofs.Laws.Bytes.{length-bytes, table_back_lem}
use Rattle.condition.proofs.Laws.Verdict.{size_in, item_8}
use Rattle.sheet.specs.Bytes as sheet
use Rattle.editions.specs.Edition.{second}
use Rattle.sheet.specs.Bytes.{edits_of, in_edition, all_in_edition}
use Rattle.sheet.specs.Refusal.{sheet_verdict}
use Rattle.sheet.proofs.Laws.Accepted.{sheet_accepted, one_refused}
use Rattle.going.proofs.Laws.Ranges.{legal-CN1, legal-CN2, legal-AP, legal-DP, legal-AT, legal-RT, legal-DT1, legal-DT2, legal-AS, legal-DS}
use Rattle.classes.specs.Classes.{Classes}
use Rattle.classes_entry.specs.Classing.{ClassesAfter}
use Rattle.demands.specs.Demands.{ApplyCall, RewriteCall, ListCall, ClassCall, rewritten_table, Going, Runnable, Demand3}
use Rattle.demands.proofs.Laws.Accepted.{classes_accepted}
use Rattle.demands.proofs.Laws.Demands.{demand_3}
use Rattle.sample_bytes.specs.Names.{names_of, every_operand, name_bytes, Names}
use Rattle.sample_bytes.proofs.Laws.Refused.{site_refused}
use Rattle.sample_bytes.proofs.Laws.Judged.{table_accepted}
use Rattle.sample_bytes.proofs.Laws.Lists.{lists_same, today_holds}

-- ---- the limit in conditions

closed_name : (n : ℕ) → n < names → ClosedTable (table_name n)
unfolding table_name nodes_fit node_fits kind_fits leaf_fits kind_of kind_no even_table even occ tree_at trees tree build atom form_of closed free slot_free all same below
closed_name n h = record { some = omega arith; fits = rw (below_in n names h); even_rule = refl; is_closed = refl; no_slot_number = refl }

name_accepted : (n : ℕ) → n < names → condition_verdict (name_bytes n) ≡ Accepted
unfolding table_name
name_accepted n h =
    let t = closed_name n h in
    table_accepted (table_name n) t.some (omega arith) t.fits t.even_rule t.is_closed

name_refused : (n : ℕ) → names ≤ n → condition_verdict (name_bytes n) ≡ Err (MalformedNode 0)
unfolding first_unfit table_name condition.node_at condition.bytes_of condition.node_bytes node_fits kind_fits leaf_fits kind_of same below
name_refused n h =
    let S = name_bytes n in
    let one : length (condition.table_of S) ≡ 1 = ap length (table_back_lem (table_name n)) in
    let unfit : node_fits 0 (condition.node_at S 0) ≡ false = rw (below-not n names h) in
    let w : first_unfit S ≡ 0 = first_is _ _ 0 (omega arith) (none_start _) (ap not unfit) in
    let size = length-bytes (table_name n) in
    item_8 S (size_in (length S) (omega arith) (omega arith) (omega arith)) (rw (w, one)) ∙ ap (λ (w : ℕ). Err (MalformedNode w)) w

-- ---- and in edits

edits_accepted : (n : ℕ) → 0 < n → n < names → sheet_verdict (sheet.bytes_of (every_operand n)) ≡ Accepted
unfolding every_operand sheet_legal legal functional slots below in_edition all_in_edition same
edits_accepted n p h =
    let moved : n ≢ 0 = λ e. absurd (omega arith) in
    sheet_accepted second _ (every_operand n)
    (record { bytes = refl; are_legal = rw (below_in n names h, ne_same moved); of_edition = refl; few = omega arith })

both_below : {n1 n2 : ℕ} → (n1 < names) × (n2 < names) → each (λ n. below n names) (n1 ∷ n2 ∷ []) ≡ true
unfolding each
both_below {n1} {n2} p = rw (below_in n1 names p.0, below_in n2 names p.1)

one_below : {n : ℕ} → n < names → each (λ n. below n names) (n ∷ []) ≡ true
unfolding each
one_below {n} p = rw (below_in n names p)

legal-names : (e : Edit) → legal e ≡ true → each (λ n. below n names) (names_of e) ≡ true
unfolding names_of
legal-names (CN1 n1 n2) l = both_below (legal-CN1 n1 n2 l)
legal-names (CN2 n1 n2 f) l = let r = legal-CN2 n1 n2 f l in both_below (r.0, r.1.0)
legal-names (AP n p) l = one_below (legal-AP n p l).0
legal-names (DP n p) l = one_below (legal-DP n p l).0
legal-names (AT m n1 n2) l = both_below (legal-AT m n1 n2 l).1
legal-names (RT f n1 n2) l = both_below (legal-RT f n1 n2 l).1
legal-names (DT1 m n1 n2) l = both_below (legal-DT1 m n1 n2 l).1
legal-names (DT2 f n) l = one_below (legal-DT2 f n l).1
legal-names (AS n k) l = one_below (legal-AS n k l).0
legal-names (DS n) l = one_below (legal-DS n l)

-- ---- the slot of a name is alone in its class

module _ {M : Model} {p : List ℕ} (k : Classes M p) (n : ℕ) (h : n < names) (l : M.place n < slots) where
  named_number : get_or p (M.place n) 0 ≡ M.place n
  unfolding Bisimilar
  named_number =
      let c = k.each (M.place n) l in
      (c.bisimilar.1.on_names n (M.place n) _ h l c.is_slot c.bisimilar.2).0 refl

  same_number : (s : ℕ) → s < slots → get_or p s 0 ≡ get_or p (M.place n) 0 → s ≡ M.place n
  unfolding Bisimilar
  same_number s j e =
      let c = k.each s j in
      (c.bisimilar.1.on_names n s _ h j c.is_slot c.bisimilar.2).1 (e ∙ named_number)

alone : (site : List ℕ) → site_verdict site ≡ Accepted → (call : ClassCall site) (n s : ℕ) → n < names → s < slots
    → get_or call.classes' s 0 ≡ get_or call.classes' ((site_of site).place n) 0 → s ≡ (site_of site).place n
unfolding ClassesAfter
alone site a call n s h j =
    let valid = ((site_valid site).0 a).1 in
    let v = classes_accepted (length call.classes) site (record { classes_size = call.classes_size; site_accepted = a }) in
    same_number (rw v at call.returned.left).0 n h (valid.small _ (valid.named n)) s j

-- ---- the condition that is a name, today and after

found : (edition : ℕ) (site sheet : List ℕ) (n : ℕ) → Runnable edition site (name_bytes n) sheet
    → (applied : ApplyCall edition site sheet) (rewrote : RewriteCall edition (name_bytes n) sheet)
    → (today : ListCall site (rewritten_table rewrote)) (after : ListCall applied.result' (name_bytes n))
    → (today.set' ≡ after.set') × Is today.set' (λ s. same s ((site_of applied.result').place n))
unfolding slots form_of tree_at trees tree build atom kind_of table_name Holds loopless no_loop
found edition site sheet n j a w t u =
    let holds = today_holds edition site sheet (table_name n) refl j a w t u (λ v. none) in
    (lists_same edition site sheet (table_name n) refl j a w t u, λ s h. both (λ p. eq_same ((holds s h).0 p)) (λ p. (holds s h).1 (same_eq p)))

alike : (edition : ℕ) (site sheet : List ℕ) (n : ℕ) → n < names → Going edition site sheet
    → (applied : ApplyCall edition site sheet) (numbered : ClassCall applied.result') (ρ : Env) (s t : ℕ) → s < slots → t < slots
    → get_or numbered.classes' s 0 ≡ get_or numbered.classes' t 0
    → ¬ Distinguishes (site_of site) ρ (form_of (rewrite_sheet (edits_of edition sheet) (table_name n))) s t
unfolding Demand3
alike edition site sheet n l g a c ρ s t h k e d =
    ((demand_3 edition site sheet g a c).same_numbers ρ s t h k).0 e (record { table = table_name n; is_closed = closed_name n l; tells = d })

pub forty_eight : Names
forty_eight = record {
  names_at = λ S n. place_is S n;
  targets_at_is = refl;
  rows_at_is = refl;
  site_length = refl;
  old_site = λ site e. site_refused site SiteLength refl (wrong_length site (λ q. absurd (omega arith)));
  node_accepted = λ n h. name_accepted n (omega arith);
  node_refused = λ n h. name_refused n (omega arith);
  edits_accepted = λ n p h. edits_accepted n p (omega arith);
  edit_refused = λ edition e i p. one_refused edition e i (no_true (λ l. clash (legal-names e l) p));
  alone = λ site a call n s h. alone site a call n s (omega arith);
  found = found;
  alike = λ edition site sheet n h. alike edition site sheet n (omega arith);
}
