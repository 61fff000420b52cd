-- The loops that take a slot's labels, names and links away: at the start, after one more turn, and at the end.
use Rattle.std.specs.Prelude.{◌≡◌, Bool, ◌&&◌, ◌||◌, List, ℕ, ◌+◌, ◌≤◌, ◌<◌, refl, true, false, not, cond}
use Rattle.std.proofs.Common.{◌∙◌, arith, sym, ap}
use Rattle.std.proofs.Math.Bool.{and-true}
use Rattle.std.proofs.Math.Decide.{dec_lt}
use Rattle.finite.specs.Tests.{same, below}
use Rattle.finite.proofs.Laws.Below.{equal?, eq_same, ne_same, below_in, below-not}
use Rattle.finite.proofs.Laws.Bools.{either, look}
use Rattle.limits.specs.Limits.{slots, labels, names, links}
use Rattle.semantics.specs.Holds.{Model}
use Rattle.site.specs.Site.{site_of}
use Rattle.site.proofs.Laws.Read.{marked_in, place_out, link_in}
use Rattle.site_changes.specs.Change.{with_name, without_label, without_name, without_link, without_target, without_links_of, without_labels, without_names, without_links, labels_to, names_to, column_to, links_to}
use Rattle.site_changes.proofs.Laws.Cases.{cond_no, cond_same, guard, below_more, more_cond, more_and, more_place, more_pairs, all_pairs}
use Rattle.site_changes.proofs.Laws.Areas.{same_fields}

none_below : (q : ℕ) → below q 0 ≡ false
none_below q = below-not q 0 (omega arith)

-- models that differ in the labels, names or links alone
pub marked_only : {M N : Model} → M.present ≡ N.present → M.place ≡ N.place → M.link ≡ N.link → ((p s : ℕ) → M.marked p s ≡ N.marked p s) → M ≡ N
marked_only a b c h = same_fields (record { present_same = λ s. ap (λ f. f s) a; marked_same = h; place_same = λ n. ap (λ f. f n) b; link_same = λ m s t. ap (λ f. f m s t) c })

place_only : {M N : Model} → M.present ≡ N.present → M.marked ≡ N.marked → M.link ≡ N.link → ((n : ℕ) → M.place n ≡ N.place n) → M ≡ N
place_only a b c h = same_fields (record { present_same = λ s. ap (λ f. f s) a; marked_same = λ p s. ap (λ f. f p s) b; place_same = h; link_same = λ m s t. ap (λ f. f m s t) c })

link_only : {M N : Model} → M.present ≡ N.present → M.marked ≡ N.marked → M.place ≡ N.place → ((m s t : ℕ) → M.link m s t ≡ N.link m s t) → M ≡ N
link_only a b c h = same_fields (record { present_same = λ s. ap (λ f. f s) a; marked_same = λ p s. ap (λ f. f p s) b; place_same = λ n. ap (λ f. f n) c; link_same = h })

module _ (M : Model) (x : ℕ) where
  pub labels_start : M ≡ labels_to M x 0
  unfolding labels_to
  labels_start = marked_only refl refl refl (λ q s. sym (ap (λ (b : Bool). M.marked q s && not (b && same s x)) (none_below q) ∙ and-true (M.marked q s)))

  pub labels_more : (i : ℕ) {N N' : Model} → N ≡ labels_to M x i → N' ≡ without_label N i x → N' ≡ labels_to M x (i + 1)
  unfolding labels_to without_label
  labels_more i e h =
      h ∙ ap (λ (K : Model). without_label K i x) e
      ∙ marked_only refl refl refl (λ q s.
      more_cond (M.marked q s) (below q i) (same s x) (same q i) ∙ ap (λ (b : Bool). M.marked q s && not (b && same s x)) (sym (below_more q i)))

  pub names_start : M ≡ names_to M x 0
  unfolding names_to
  names_start = place_only refl refl refl (λ y. sym (cond_no 0 (M.place y) (ap (λ (b : Bool). b && same (M.place y) x) (none_below y))))

  pub names_more : (i : ℕ) {N N' : Model} → N ≡ names_to M x i → N' ≡ without_name N i x → N' ≡ names_to M x (i + 1)
  unfolding names_to without_name
  names_more i e h =
      h ∙ ap (λ (K : Model). without_name K i x) e
      ∙ place_only refl refl refl (λ y.
      more_place (below y i) (same y i) (M.place y) x ∙ ap (λ (b : Bool). cond (b && same (M.place y) x) 0 (M.place y)) (sym (below_more y i)))

  pub column_start : (m : ℕ) → M ≡ column_to M m x 0
  unfolding column_to
  column_start m =
      link_only refl refl refl (λ l s t.
      sym (ap (λ (b : Bool). M.link l s t && not (same l m && (same t x && b))) (none_below s) ∙ none (M.link l s t) (same l m) (same t x)))
    where
      none : (a b c : Bool) → (a && not (b && (c && false))) ≡ a
      none false b c = refl
      none true false c = refl
      none true true true = refl
      none true true false = refl

  pub column_more : (m i : ℕ) {N N' : Model} → N ≡ column_to M m x i → N' ≡ without_link N m i x → N' ≡ column_to M m x (i + 1)
  unfolding column_to without_link
  column_more m i e h =
      h ∙ ap (λ (K : Model). without_link K m i x) e
      ∙ link_only refl refl refl (λ l s t.
      more_pairs (M.link l s t) (same l m) (same t x) (below s i) (same s i)
      ∙ ap (λ (b : Bool). M.link l s t && not (same l m && (same t x && b))) (sym (below_more s i)))

  pub links_start : M ≡ links_to M x 0
  unfolding links_to
  links_start =
      link_only refl refl refl (λ l s t.
      sym (ap (λ (b : Bool). M.link l s t && not (b && (same s x || same t x))) (none_below l) ∙ and-true (M.link l s t)))

  pub links_more : (i : ℕ) {N N' : Model} → N ≡ links_to M x i → N' ≡ without_links_of N i x → N' ≡ links_to M x (i + 1)
  unfolding links_to without_links_of
  links_more i e h =
      h ∙ ap (λ (K : Model). without_links_of K i x) e
      ∙ link_only refl refl refl (λ l s t.
      more_and (M.link l s t) (below l i) (same s x || same t x) (same l i)
      ∙ ap (λ (b : Bool). M.link l s t && not (b && (same s x || same t x))) (sym (below_more l i)))

-- one name: at nil where it was at slot x
pub name_left : (M : Model) (n x : ℕ) {p q : ℕ} {M' : Model} → M.place n ≡ p → q ≡ cond (same p x) 0 p → M' ≡ with_name M n q → M' ≡ without_name M n x
unfolding with_name without_name
name_left M n x {p} {q} d e h = h ∙ place_only refl refl refl (λ y. either (equal? y n) (λ g. here y g) (λ g. rw (ne_same g)))
  where
    here : (y : ℕ) → y ≡ n → cond (same y n) q (M.place y) ≡ cond (same y n && same (M.place y) x) 0 (M.place y)
    here y g = let at : M.place y ≡ p = ap M.place g ∙ d in rw (eq_same g, at) e

-- at the end: nothing is labelled, named or linked past the last label, name, slot and link
module _ (S : List ℕ) (x : ℕ) where
  pub labels_end : (i : ℕ) → labels ≤ i → labels_to (site_of S) x i ≡ without_labels (site_of S) x
  unfolding labels_to without_labels
  labels_end i h =
      marked_only refl refl refl (λ q s.
      guard ((site_of S).marked q s) (λ p.
      let r = marked_in S q s p in
      ap (λ (b : Bool). not (b && same s x)) (below_in q i (omega (arith, r.0)))))

  pub names_end : (i : ℕ) → names ≤ i → names_to (site_of S) x i ≡ without_names (site_of S) x
  unfolding names_to without_names
  names_end i h = place_only refl refl refl (λ y. go y (dec_lt y i))
    where
      go : (y : ℕ) → Dec (y < i) → cond (below y i && same ((site_of S).place y) x) 0 ((site_of S).place y) ≡ cond (same ((site_of S).place y) x) 0 ((site_of S).place y)
      go y (yes l) = ap (λ (b : Bool). cond (b && same ((site_of S).place y) x) 0 ((site_of S).place y)) (below_in y i l)
      go y (no l) =
          let z : (site_of S).place y ≡ 0 = place_out S y (omega arith) in
          rw z (cond_same {A = ℕ} (below y i && same 0 x) 0 ∙ sym (cond_same {A = ℕ} (same 0 x) 0))

  -- the column, then the row
  pub crossed : (m i : ℕ) {N N' : Model} → slots ≤ i → N ≡ column_to (site_of S) m x i → N' ≡ without_target N m x → N' ≡ without_links_of (site_of S) m x
  unfolding column_to without_target without_links_of
  crossed m i h e g =
      g ∙ ap (λ (K : Model). without_target K m x) e
      ∙ link_only refl refl refl (λ l s t.
      either
      (look ((site_of S).link l s t))
      (λ p.
      ap (λ (b : Bool). cond (same l m) (((site_of S).link l s t && not (same l m && (same t x && b))) && not (same s x)) ((site_of S).link l s t && not (same l m && (same t x && b)))) (below_in s i (omega (arith, (link_in S l s t p).1.0)))
      ∙ all_pairs ((site_of S).link l s t) (same l m) (same t x) (same s x))
      (λ p. rw p (cond_same (same l m) false)))

  pub links_end : (i : ℕ) → links ≤ i → links_to (site_of S) x i ≡ without_links (site_of S) x
  unfolding links_to without_links
  links_end i h =
      link_only refl refl refl (λ l s t.
      guard ((site_of S).link l s t) (λ p.
      let r = link_in S l s t p in
      ap (λ (b : Bool). not (b && (same s x || same t x))) (below_in l i (omega (arith, r.0)))))
