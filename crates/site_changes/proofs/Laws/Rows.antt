-- The edits, row by row: each as changes at slots.
use Rattle.std.specs.Prelude.{◌≡◌, ◌≢◌, Bool, false, ◌&&◌, ◌||◌, ℕ, refl, not, cond}
use Rattle.std.proofs.Common.{◌∙◌, sym, ap}
use Rattle.std.proofs.Math.Bool.{or-false}
use Rattle.finite.specs.Tests.{same}
use Rattle.finite.proofs.Laws.Bools.{either, look}
use Rattle.finite.proofs.Laws.Below.{same_eq, ne_same}
use Rattle.semantics.specs.Holds.{Model}
use Rattle.semantics.specs.Edit.{CN1, CN2, AP, DP, AT, DT1, DT2, AS, DS, RT, target, edit}
use Rattle.going.proofs.Laws.Ranges.{ranges}
use Rattle.site_changes.specs.Change.{with_name, with_slot, without_slot, with_label, without_label, with_link, without_link, with_target, without_target, without_labels, without_names, without_links}
use Rattle.site_changes.proofs.Laws.Cases.{cond_same}
use Rattle.site_changes.proofs.Laws.Loops.{marked_only}

-- an edit is its changes, at the places that its names have before it
module _ (M : Model) where
  pub edit-CN1 : (n1 n2 : ℕ) → edit (CN1 n1 n2) M ≡ with_name M n1 (M.place n2)
  unfolding edit with_name
  edit-CN1 n1 n2 = refl

  pub edit-CN2 : (n1 n2 f : ℕ) → edit (CN2 n1 n2 f) M ≡ with_name M n1 (target M f (M.place n2))
  unfolding edit with_name
  edit-CN2 n1 n2 f = refl

  pub edit-AP : (n p : ℕ) → M.place n ≢ 0 → edit (AP n p) M ≡ with_label M p (M.place n)
  unfolding edit with_label
  edit-AP n p off = marked_only refl refl refl (λ q s. ap (λ (b : Bool). cond (same q p) (M.marked q s || b) (M.marked q s)) (here s))
    where
      here : (s : ℕ) → (same s (M.place n) && not (same s 0)) ≡ same s (M.place n)
      here s = either (look (same s (M.place n))) (λ a. rw (a, ne_same (λ z. off (sym (same_eq a) ∙ z)))) (λ a. rw a)

  pub edit-DP : (n p : ℕ) → edit (DP n p) M ≡ without_label M p (M.place n)
  unfolding edit without_label
  edit-DP n p = refl

  pub edit-AT : (m n1 n2 : ℕ) → edit (AT m n1 n2) M ≡ with_link M m (M.place n1) (M.place n2)
  unfolding edit with_link
  edit-AT m n1 n2 = refl

  pub edit-DT1 : (m n1 n2 : ℕ) → edit (DT1 m n1 n2) M ≡ without_link M m (M.place n1) (M.place n2)
  unfolding edit without_link
  edit-DT1 m n1 n2 = refl

  pub edit-DT2 : (f n : ℕ) → edit (DT2 f n) M ≡ without_target M f (M.place n)
  unfolding edit without_target
  edit-DT2 f n = refl

  pub edit-AS : (n k : ℕ) → edit (AS n k) M ≡ with_name (with_slot M k) n k
  unfolding edit with_name with_slot
  edit-AS n k = refl

  pub edit-DS : (n : ℕ) → edit (DS n) M ≡ without_links (without_names (without_labels (without_slot M (M.place n)) (M.place n)) (M.place n)) (M.place n)
  unfolding edit without_slot without_labels without_names without_links
  edit-DS n = refl

  pub edit-RT : (f n1 n2 : ℕ) → edit (RT f n1 n2) M ≡ with_target M f (M.place n1) (M.place n2)
  unfolding edit with_target
  edit-RT f n1 n2 = refl

-- AP with a name at nil changes nothing
pub row_AP_nil : (M : Model) (n p : ℕ) {x : ℕ} → x ≡ M.place n → x ≡ 0 → M ≡ edit (AP n p) M
unfolding edit
row_AP_nil M n p e nil =
    marked_only refl refl refl (λ q s. sym
    (ap (λ (b : Bool). cond (same q p) (M.marked q s || b) (M.marked q s)) (nowhere s)
    ∙ ap (λ (b : Bool). cond (same q p) b (M.marked q s)) (or-false (M.marked q s))
    ∙ cond_same (same q p) (M.marked q s)))
  where
    nowhere : (s : ℕ) → (same s (M.place n) && not (same s 0)) ≡ false
    nowhere s = rw (sym e ∙ nil) (either (look (same s 0)) (λ a. rw a) (λ a. rw a))

pub edit-AP_nil : (M : Model) (n p : ℕ) → M.place n ≡ 0 → edit (AP n p) M ≡ M
edit-AP_nil M n p nil = sym (row_AP_nil M n p refl nil)

-- each edit as its changes, and the ranges of its operands
pub ruleset edit_changes = (ranges, edit-CN1, edit-CN2, edit-AP, edit-AP_nil, edit-DP, edit-AT, edit-DT1, edit-DT2, edit-AS, edit-DS, edit-RT)
