-- A site's model by the areas of its bytes: what an area that is kept says, and what the bytes in range say of the whole model.
use Rattle.std.specs.Prelude.{◌≡◌, Bool, true, ◌&&◌, List, ℕ, ◌+◌, ◌*◌, ◌/◌, ◌%◌, ◌≤◌, ◌<◌, get_or, not, cond}
use Rattle.std.proofs.Common.{◌∙◌, arith, sym, ap}
use Rattle.std.proofs.Math.Decide.{dec_lt}
use Rattle.finite.specs.Tests.{same, below, bit}
use Rattle.finite.proofs.Laws.Bools.{both, and_l, and_r}
use Rattle.finite.proofs.Laws.Below.{below_out}
use Rattle.bitset.specs.Set.{has}
use Rattle.limits.specs.Limits.{slots, labels, names, links, general_links}
use Rattle.semantics.specs.Holds.{Model}
use Rattle.site.specs.Layout.{labels_at, names_at, targets_at, rows_at, site_bytes, label_at, name_at, target_at, row_at}
use Rattle.site.specs.Site.{site_of}
use Rattle.site.proofs.Laws.Read.{present_is, present_in, marked_is, marked_in, place_out, row_is, target_is, link_in}
use Rattle.site_changes.proofs.Laws.Cases.{guard}

-- models that say the same are the same
pub record SameFields (M N : Model) : Type 0 where
  pub present_same : (s : ℕ) → M.present s ≡ N.present s
  pub marked_same : (p s : ℕ) → M.marked p s ≡ N.marked p s
  pub place_same : (n : ℕ) → M.place n ≡ N.place n
  pub link_same : (m s t : ℕ) → M.link m s t ≡ N.link m s t

pub same_fields : {M N : Model} → SameFields M N → M ≡ N
same_fields a = λ i. record {
  present = λ s. a.present_same s i;
  marked = λ p s. a.marked_same p s i;
  place = λ n. a.place_same n i;
  link = λ m s t. a.link_same m s t i;
}

-- S' has the bytes of S from a up to b
abbrev pub Kept : List ℕ → List ℕ → ℕ → ℕ → Type 0
Kept S S' a b = (j : ℕ) → a ≤ j → j < b → get_or S' j 0 ≡ get_or S j 0

module _ (S S' : List ℕ) where
  slot_kept : (a : ℕ) → get_or S' (a / 8) 0 ≡ get_or S (a / 8) 0 → has S' a ≡ has S a
  unfolding has
  slot_kept a e = ap (λ (x : ℕ). bit x (a % 8)) e

  pub present_kept : Kept S S' 0 labels_at → (s : ℕ) → (site_of S').present s ≡ (site_of S).present s
  unfolding site_of slots
  present_kept e s =
      guard (below s slots) (λ p.
      let h = below_out s slots p in
      slot_kept s (e (s / 8) (omega arith) (omega arith)))

  pub marked_kept : Kept S S' labels_at names_at → (p s : ℕ) → (site_of S').marked p s ≡ (site_of S).marked p s
  unfolding site_of slots
  marked_kept e p s =
      guard (below p labels && below s slots) (λ q.
      let hp = below_out p labels (and_l (below p labels) (below s slots) q) in
      let hs = below_out s slots (and_r (below p labels) (below s slots) q) in
      slot_kept (label_at p * 8 + s) (e ((label_at p * 8 + s) / 8) (omega arith) (omega arith)))

  pub place_kept_at : (n : ℕ) → get_or S' (name_at n) 0 ≡ get_or S (name_at n) 0 → (site_of S').place n ≡ (site_of S).place n
  unfolding site_of
  place_kept_at n e = ap (λ (x : ℕ). cond (below n names) x 0) e

  pub row_kept : Kept S S' rows_at site_bytes → (m s t : ℕ) → m < general_links → s < slots → t < slots
      → has S' (row_at m s * 8 + t) ≡ (site_of S).link m s t
  unfolding slots
  row_kept e m s t hm hs ht =
      slot_kept (row_at m s * 8 + t) (e ((row_at m s * 8 + t) / 8) (omega arith) (omega arith)) ∙ sym (row_is S m s t hm hs ht)

  pub target_kept : Kept S S' targets_at rows_at → (f s t : ℕ) → general_links ≤ f → f < links → s < slots → t < slots
      → (same (get_or S' (target_at f s) 0) t && not (same t 0)) ≡ (site_of S).link f s t
  unfolding slots
  target_kept e f s t hg hl hs ht =
      ap (λ (x : ℕ). same x t && not (same t 0)) (e (target_at f s) (omega arith) (omega arith)) ∙ sym (target_is S f s t hg hl hs ht)

-- names that are kept, where those past the last are at nil anyway
pub place_kept : (S S' : List ℕ) → Kept S S' names_at targets_at → (n : ℕ) → (site_of S').place n ≡ (site_of S).place n
unfolding site_of
place_kept S S' e n = go (dec_lt n names)
  where
    go : Dec (n < names) → (site_of S').place n ≡ (site_of S).place n
    go (yes h) = place_kept_at S S' n (e (name_at n) (omega arith) (omega arith))
    go (no h) = place_out S' n (omega arith) ∙ sym (place_out S n (omega arith))

-- ---- a part of the model, from the bytes in range and from nothing being outside

module _ (S : List ℕ) where
  pub presents_are : (P : ℕ → Bool) → ((s : ℕ) → s < slots → has S s ≡ P s) → ((s : ℕ) → P s ≡ true → s < slots)
      → (s : ℕ) → (site_of S).present s ≡ P s
  presents_are P h inside s =
      both
      (λ p. let r = present_in S s p in sym (h s r) ∙ sym (present_is S s r) ∙ p)
      (λ p. let r = inside s p in present_is S s r ∙ h s r ∙ p)

  pub marks_are : (P : ℕ → ℕ → Bool) → ((p s : ℕ) → p < labels → s < slots → has S (label_at p * 8 + s) ≡ P p s)
      → ((p s : ℕ) → P p s ≡ true → (p < labels) × (s < slots)) → (p s : ℕ) → (site_of S).marked p s ≡ P p s
  marks_are P h inside p s =
      both
      (λ e. let r = marked_in S p s e in sym (h p s r.0 r.1) ∙ sym (marked_is S p s r.0 r.1) ∙ e)
      (λ e. let r = inside p s e in marked_is S p s r.0 r.1 ∙ h p s r.0 r.1 ∙ e)

  module _ (P : ℕ → ℕ → ℕ → Bool)
      (rows : (m s t : ℕ) → m < general_links → s < slots → t < slots → has S (row_at m s * 8 + t) ≡ P m s t)
      (targets : (f s t : ℕ) → general_links ≤ f → f < links → s < slots → t < slots
      → (same (get_or S (target_at f s) 0) t && not (same t 0)) ≡ P f s t) where
    link_at : (m s t : ℕ) → (m < links) × ((s < slots) × (t < slots)) → (site_of S).link m s t ≡ P m s t
    link_at m s t r = go (dec_lt m general_links)
      where
        go : Dec (m < general_links) → (site_of S).link m s t ≡ P m s t
        go (yes h) = row_is S m s t h r.1.0 r.1.1 ∙ rows m s t h r.1.0 r.1.1
        go (no h) =
            let g : general_links ≤ m = omega arith in
            target_is S m s t g r.0 r.1.0 r.1.1 ∙ targets m s t g r.0 r.1.0 r.1.1

    pub links_are : ((m s t : ℕ) → P m s t ≡ true → (m < links) × ((s < slots) × (t < slots))) → (m s t : ℕ) → (site_of S).link m s t ≡ P m s t
    links_are inside m s t =
        both
        (λ p. sym (link_at m s t (link_in S m s t p)) ∙ p)
        (λ p. link_at m s t (inside m s t p) ∙ p)

pub link_kept : (S S' : List ℕ) → Kept S S' targets_at site_bytes → (m s t : ℕ) → (site_of S').link m s t ≡ (site_of S).link m s t
link_kept S S' e =
    links_are S' (site_of S).link (row_kept S S' (λ j a b. e j (omega arith) (omega arith))) (target_kept S S' (λ j a b. e j (omega arith) (omega arith))) (link_in S)
