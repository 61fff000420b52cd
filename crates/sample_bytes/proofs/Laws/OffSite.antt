-- Slot 0 has no label: by what a valid site is, since edits leave a site valid.
use Rattle.std.specs.Prelude.{◌≡◌, true, false, List, [], ◌∷◌, ℕ, ◌<◌, refl}
use Rattle.std.proofs.Common.{◌∙◌, sym, arith}
use Rattle.finite.specs.Bytes.{Bytes}
use Rattle.finite.proofs.Laws.Bools.{both, no_true}
use Rattle.finite.proofs.Laws.Below.{below_in}
use Rattle.bitset.specs.Set.{has, Is}
use Rattle.limits.specs.Limits.{slots, labels, names}
use Rattle.verdict.specs.declared.Refusal.TheVariants.{Labels}
use Rattle.verdict.specs.Verdict.{Accepted}
use Rattle.semantics.specs.Holds.{Holds}
use Rattle.semantics.specs.Table.{kind_of, atom, build, tree, trees, tree_at, form_of}
use Rattle.semantics.specs.Edit as edits
use Rattle.semantics.specs.Edit.{AP, legal, goes, sheet_legal, sheet_goes}
use Rattle.semantics.specs.FixedPoint.{none}
use Rattle.rounds.proofs.Laws.Loopless.{no_loop, loopless}
use Rattle.samples.specs.Rows.{table_label}
use Rattle.editions.specs.Edition.{edition_verdict}
use Rattle.sheet.specs.Bytes.{in_edition, all_in_edition}
use Rattle.site.specs.Site.{site_of}
use Rattle.site.specs.Refusal.{site_verdict}
use Rattle.site.proofs.Laws.Valid.{site_valid, nil_labelled}
use Rattle.site.proofs.Laws.Same.{same_site}
use Rattle.site_changes.proofs.Laws.Rows.{row_AP_nil}
use Rattle.sheet.proofs.Laws.Read.{edits-back}
use Rattle.sheet.proofs.Laws.Accepted.{sheet_accepted}
use Rattle.demands.specs.Demands.{ApplyCall, RewriteCall, ListCall, rewritten_table, Going, Runnable}
use Rattle.demands.proofs.Laws.Demands.{apply_reason, site_left, left_accepted}
use Rattle.sample_bytes.specs.OffSite.{label_bytes, ap_bytes, OffSite}
use Rattle.sample_bytes.proofs.Laws.Lists.{lists_same, today_holds}
use Rattle.sample_bytes.proofs.Laws.Refused.{site_refused}

unlabelled : (site : List ℕ) → site_verdict site ≡ Accepted → (p : ℕ) → (site_of site).marked p 0 ≡ false
unlabelled site a p = no_true (λ e. (((site_valid site).0 a).1.labelled p 0 e).1 refl)

module _ (edition : ℕ) (known : edition_verdict edition ≡ Accepted) (site : List ℕ) (a : site_verdict site ≡ Accepted) (n p : ℕ) (hn : n < names)
    (hp : p < labels) where
  one-edit : all_in_edition edition (AP n p ∷ []) ≡ true
  unfolding all_in_edition in_edition
  one-edit = refl

  going : Going edition site (ap_bytes n p)
  unfolding sheet_legal legal sheet_goes goes
  going = record {
    edition_accepted = known;
    site_accepted = a;
    sheet_accepted = sheet_accepted edition _ (AP n p ∷ [])
        (record { bytes = refl; are_legal = rw (below_in n names hn, below_in p labels hp); of_edition = one-edit; few = omega arith });
    goes_through = rw (edits-back edition (AP n p ∷ []) one-edit);
  }

  nothing_marked : Bytes site → (site_of site).place n ≡ 0 → (call : ApplyCall edition site (ap_bytes n p)) → (call.reason ≡ 0) × (call.result' ≡ site)
  unfolding edits.sheet
  nothing_marked b nil call =
      let w = site_left going call in
      let same : site_of call.result' ≡ site_of site = (rw (edits-back edition (AP n p ∷ []) one-edit) at w.effects) ∙ sym (row_AP_nil (site_of site) n p refl nil) in
      (apply_reason going call, same_site call.result' site w.bytes b same w.size ((site_valid site).0 a).0)

listed : (edition : ℕ) (site sheet : List ℕ) (p : ℕ) → Runnable edition site (label_bytes p) sheet
    → (applied : ApplyCall edition site sheet) (rewrote : RewriteCall edition (label_bytes p) sheet)
    → (today : ListCall site (rewritten_table rewrote)) (after : ListCall applied.result' (label_bytes p))
    → (today.set' ≡ after.set') × Is today.set' ((site_of applied.result').marked p) × (has today.set' 0 ≡ false)
unfolding slots form_of tree_at trees tree build atom kind_of table_label Holds loopless no_loop
listed edition site sheet p j a w t u =
    let holds = today_holds edition site sheet (table_label p) refl j a w t u (λ v. none) in
    let is : Is t.set' ((site_of a.result').marked p) = λ s h. both (λ q. (holds s h).0 q) (λ q. (holds s h).1 q) in
    (lists_same edition site sheet (table_label p) refl j a w t u, is, is 0 (omega arith) ∙ unlabelled a.result' (left_accepted j.going a) p)

pub off_site : OffSite
off_site = record {
  unlabelled = unlabelled;
  label_refused = λ site l h p m. site_refused site Labels refl (nil_labelled site l h p m);
  nothing_marked = λ edition known site b a n p hn hp nil. nothing_marked edition known site a n p hn hp b nil;
  listed = listed;
}
