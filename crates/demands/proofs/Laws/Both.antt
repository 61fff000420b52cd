-- A sheet that goes through in edition 1 goes through in edition 2, and leaves the same site: where AT on a functional link goes through, the slot
-- has no other target to be replaced.
use Rattle.std.specs.Prelude.{◌≡◌, refl, ◌&&◌, ◌||◌, cond, List, [], ◌∷◌, ℕ, length, true}
use Rattle.std.proofs.Math.Path.{fun_ext}
use Rattle.std.proofs.Common.{◌∙◌, inr, sym, ap}
use Rattle.finite.specs.Tests.{same}
use Rattle.finite.proofs.Laws.Bools.{either, look, clash, both, and_in, and_l, and_r, or_l, or_r, or_out}
use Rattle.finite.proofs.Laws.Below.{same_eq, eq_same}
use Rattle.semantics.specs.Holds.{Model}
use Rattle.semantics.specs.Edit as edits
use Rattle.semantics.specs.Edit.{Edit, AT, RT, functional, edit, legal, goes, set_link, Valid, sheet, sheet_legal, sheet_goes}
use Rattle.semantics.proofs.Laws.Edits.{Goes, goes_out, edit_valid}
use Rattle.editions.specs.Edition.{second, edition_verdict}
use Rattle.editions.proofs.Laws.{known_in}
use Rattle.site.specs.Site.{site_of}
use Rattle.site.specs.Refusal.{site_verdict}
use Rattle.site.proofs.Laws.Valid.{site_valid}
use Rattle.site.proofs.Laws.Same.{same_site}
use Rattle.sheet.specs.Bytes.{link_edit, read_edit, edits_of}
use Rattle.sheet.specs.Refusal.{sheet_verdict}
use Rattle.sheet.proofs.Laws.Read.{read_both}
use Rattle.sheet.proofs.Laws.Accepted.{accepted_sheet}
use Rattle.applying.specs.Refusal.{goes_verdict}
use Rattle.applying.proofs.Laws.Goes as applying
use Rattle.refusals.specs.Refusal.{buffer_verdict}
use Rattle.refusals.proofs.Laws.Items.{then_out, numbered}
use Rattle.apply_entry.specs.Refusal.{apply_verdict}
use Rattle.demands.specs.Demands.{ApplyCall, Going}
use Rattle.demands.specs.Editions.{DemandBothEditions}
use Rattle.demands.proofs.Laws.Demands.{apply_reason, site_left}

-- ---- one edit

module _ (f n1 n2 : ℕ) (M : Model) (v : Valid M) (o : functional f ≡ true) (g : goes (AT f n1 n2) M ≡ true) where
  -- by link l, from s to t: replaced, and added
  same_link : (l s t : ℕ)
      → cond (same l f && same s (M.place n1)) (same t (M.place n2)) (M.link l s t)
      ≡ cond (same l f) (M.link l s t || (same s (M.place n1) && same t (M.place n2))) (M.link l s t)
  unfolding Goes
  same_link l s t =
      either
      (look (same l f))
      (λ a. either (look (same s (M.place n1)))
      (λ b.
      let there : M.link l s t ≡ true → same t (M.place n2) ≡ true =
      λ h. eq_same ((goes_out M v (AT f n1 n2) g).2 o t (rw (sym (same_eq a), sym (same_eq b)) h)) in
      rw (a, b) (both (λ h. or_r (M.link l s t) _ h) (λ h. either (or_out (M.link l s t) _ h) there (λ q. q))))
      (λ b. rw (a, b) (both (λ h. or_l _ _ h) (λ h. either (or_out (M.link l s t) _ h) (λ q. q) (λ q. clash q refl)))))
      (λ a. rw a)

  replaced_added : (goes (RT f n1 n2) M ≡ true) × (edit (RT f n1 n2) M ≡ edit (AT f n1 n2) M)
  unfolding goes edit
  replaced_added = (and_l _ _ g, ap (set_link M) (fun_ext (λ l. fun_ext (λ s. fun_ext (λ t. same_link l s t)))))

-- an edit by its bytes: the editions differ in operation 4 alone
Kept : (d e : Edit) (M : Model) → Type 0
Kept d e M = (goes e M ≡ true) × (edit e M ≡ edit d M)

module _ (M : Model) (v : Valid M) where
  link_kept : (m n1 n2 : ℕ) → goes (link_edit 1 m n1 n2) M ≡ true → Kept (link_edit 1 m n1 n2) (link_edit second m n1 n2) M
  unfolding Kept link_edit same
  link_kept m n1 n2 g = either (look (functional m)) (λ o. rw o (replaced_added m n1 n2 M v o g)) (λ o. rw o (g, refl))

  edit_kept : (o x y z : ℕ) → goes (read_edit 1 o x y z) M ≡ true → Kept (read_edit 1 o x y z) (read_edit second o x y z) M
  unfolding Kept
  edit_kept o x y z = read_both (λ d e. goes d M ≡ true → Kept d e M) 1 second x y z (λ e g. (g, refl)) (link_kept x y z) o

-- ---- a sheet

sheet_kept : (s : List ℕ) (M : Model) → Valid M → sheet_legal (edits_of 1 s) ≡ true → sheet_goes (edits_of 1 s) M ≡ true
    → (sheet_goes (edits_of second s) M ≡ true) × (sheet (edits_of second s) M ≡ sheet (edits_of 1 s) M)
unfolding edits_of sheet_legal sheet_goes sheet Kept
sheet_kept [] M v l g = (refl, refl)
sheet_kept (o ∷ []) M v l g = (refl, refl)
sheet_kept (o ∷ x ∷ []) M v l g = (refl, refl)
sheet_kept (o ∷ x ∷ y ∷ []) M v l g = (refl, refl)
sheet_kept (o ∷ x ∷ y ∷ z ∷ s) M v l g =
    let e = read_edit 1 o x y z in
    let k = edit_kept M v o x y z (and_l _ _ g) in
    let w = edit_valid e (and_l _ _ l) M v (and_l _ _ g) in
    let ih = sheet_kept s (edit e M) w (and_r (legal e) _ l) (and_r (goes e M) _ g) in
    rw k.1 (and_in k.0 ih.0, ih.1)

-- ---- over bytes

module _ {site sheet : List ℕ} (c : ApplyCall 1 site sheet) (d : ApplyCall 2 site sheet) (e : c.reason ≡ 0) where
  going_first : Going 1 site sheet
  unfolding apply_verdict
  going_first =
      let a = (numbered _).accepts (sym c.returned.reason_is ∙ e) in
      let p = then_out (buffer_verdict _ _) _ a in
      let q = then_out (edition_verdict 1) _ p.1 in
      let r = then_out (site_verdict site) _ q.1 in
      let t = then_out (sheet_verdict sheet) (goes_verdict (edits_of 1 sheet) (site_of site)) r.1 in
      record {
        edition_accepted = q.0;
        site_accepted = r.0;
        sheet_accepted = t.0;
        goes_through = applying.goes_out (edits_of 1 sheet) (site_of site) t.1;
      }

  kept : (sheet_goes (edits_of second sheet) (site_of site) ≡ true) × (edits.sheet (edits_of second sheet) (site_of site) ≡ edits.sheet (edits_of 1 sheet) (site_of site))
  kept =
      let j = going_first in
      sheet_kept sheet (site_of site) ((site_valid site).0 j.site_accepted).1 (accepted_sheet 1 sheet j.sheet_accepted).are_legal j.goes_through

  going_second : Going 2 site sheet
  going_second =
      let j = going_first in
      record {
        edition_accepted = known_in 2 (inr refl);
        site_accepted = j.site_accepted;
        sheet_accepted = j.sheet_accepted;
        goes_through = kept.0;
      }

  same_result : d.result' ≡ c.result'
  same_result =
      let p = site_left going_second d in
      let q = site_left going_first c in
      same_site d.result' c.result' p.bytes q.bytes (p.effects ∙ kept.1 ∙ sym q.effects) p.size q.size

pub both_editions : DemandBothEditions
unfolding DemandBothEditions
both_editions site sheet c d e = (apply_reason (going_second c d e) d, same_result c d e)
