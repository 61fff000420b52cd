-- One node rewritten through an edit: its block says before the edit what the node says after it.
use Rattle.std.specs.Prelude.{◌≡◌, ◌⊎◌, ◌↔◌, List, Bool, true, ◌&&◌, cond, ℕ, suc, ◌+◌, ◌<◌, length, get_or, refl, false, not, ◌||◌}
use Rattle.std.proofs.Common.{◌∙◌, arith, sym, ap, ap₂, subst, inl, inr}
use Rattle.std.proofs.Math.Bool.{or_self}
use mathlib.Core.Logic.Iff
use Rattle.finite.specs.Tests.{same, below}
use Rattle.finite.proofs.Laws.Bools.{either, look, clash, and_in, and_l}
use Rattle.finite.proofs.Laws.Below.{same_eq, eq_same, ne_same, same_refl, below_in}
use Rattle.finite.proofs.Laws.Reflect.{same_iff, not_iff, and_iff, or_iff}
use Rattle.limits.specs.Limits.{slots, names, variables, links, every_way}
use Rattle.semantics.specs.Form.{Way, along, against, every, Form, top, name, neg, or, and, dia, box, mu, nu, occ, even}
use Rattle.semantics.specs.Holds.{Env, Model, step, Holds}
use Rattle.semantics.specs.Edit.{Edit, CN1, CN2, AP, DP, AT, RT, DT1, DT2, AS, DS, functional, target, edit, Valid}
use Rattle.semantics.specs.Table.{Leaf, k_true, k_here, k_label, k_name, k_var, k_slot, k_not, k_dia, k_box, k_mu, k_nu, k_or, k_and, Kind, leaf, unary, binary, way_of, Node, atom, one, two, build, leaf_fits, unary_fits, kind_fits}
use Rattle.semantics.specs.Block.{Change, keep, added, only_from, only_to, cut, cut_from, cut_to, cut_off, change, Block, old, end, on, join, size, root, block_dia, block_box, block_leaf, block}
use Rattle.semantics.proofs.Laws.Ways.{way_along, way_against, everywhere}
use Rattle.semantics.proofs.Laws.Edits.{functional_small, find_ends, Legal, Goes, target_one}
use Rattle.semantics.proofs.Laws.Steps.{step_iff, dia_says, box_says}
use Rattle.semantics.proofs.Laws.Emit.{block_fits, fill, even_block}

-- the condition ψ says before the edit what φ says after it
abbrev Says : Edit → Form → Form → Type 0
Says e φ ψ = (M : Model) → Valid M → Goes e M → (ρ : Env) (s : ℕ) → s < slots → Holds (edit e M) ρ φ s ↔ Holds M ρ ψ s

-- ψ says before the edit what φ says after it, with the same free occurrences of variables and their parity
pub record Image (e : Edit) (φ ψ : Form) : Type 0 where
  pub occurs : (b : Bool) (v : ℕ) → occ b v ψ ≡ occ b v φ
  pub says : Says e φ ψ

-- a block that makes a node: its image is the last node that it makes
unfoldable pub makes : Block → Bool
makes (old i) = false
makes (end k p) = true
makes (on k p x) = true
makes (join k x y) = true

pub root-last : (B : Block) → makes B ≡ true → (b : ℕ) → suc (root B b) ≡ b + size B
unfolding makes root size
root-last (old i) m b = clash m refl
root-last (end k p) m b = omega arith
root-last (on k p x) m b = omega arith
root-last (join k x y) m b = omega arith

-- the block B, over nodes with the trees ts, is right for a node with the tree φ
pub record BlockRight (e : Edit) (ts : List Form) (B : Block) (φ : Form) : Type 0 where
  pub made : makes B ≡ true
  pub evens : even φ ≡ true → even_block ts B ≡ true
  pub fits : block_fits (length ts) B ≡ true
  pub image : Image e φ (fill ts B)

is_right : {e : Edit} {ts : List Form} {B : Block} {φ : Form} → makes B ≡ true → (even φ ≡ true → even_block ts B ≡ true)
    → ((b : Bool) (v : ℕ) → occ b v (fill ts B) ≡ occ b v φ) → Says e φ (fill ts B) → block_fits (length ts) B ≡ true → BlockRight e ts B φ
is_right m e o s f = record { made = m; evens = e; fits = f; image = record { occurs = o; says = s } }

-- the names that a change speaks of are in range
ChangeFits : Change → Type 0
ChangeFits keep = Unit {0}
ChangeFits (added a b) = (below a names ≡ true) × (below b names ≡ true)
ChangeFits (only_from a b) = (below a names ≡ true) × (below b names ≡ true)
ChangeFits (only_to a b) = (below a names ≡ true) × (below b names ≡ true)
ChangeFits (cut a b) = (below a names ≡ true) × (below b names ≡ true)
ChangeFits (cut_from n) = below n names ≡ true
ChangeFits (cut_to n) = below n names ≡ true
ChangeFits (cut_off n) = below n names ≡ true

change_fits : (e : Edit) → Legal e → (w : Way) → ChangeFits (change e w)
unfolding change ChangeFits Legal
change_fits (CN1 n1 n2) l w = tt
change_fits (CN2 n1 n2 f) l w = tt
change_fits (AP n p) l w = tt
change_fits (DP n p) l w = tt
change_fits (AT m n1 n2) l (along j) = either (look (same j m)) (λ c. rw c l) (λ c. rw c tt)
change_fits (AT m n1 n2) l (against j) = either (look (same j m)) (λ c. rw c (l.1, l.0)) (λ c. rw c tt)
change_fits (AT m n1 n2) l every = tt
change_fits (RT f n1 n2) l (along j) = either (look (same j f)) (λ c. rw c l) (λ c. rw c tt)
change_fits (RT f n1 n2) l (against j) = either (look (same j f)) (λ c. rw c (l.1, l.0)) (λ c. rw c tt)
change_fits (RT f n1 n2) l every = tt
change_fits (DT1 m n1 n2) l (along j) = either (look (same j m)) (λ c. rw c l) (λ c. rw c tt)
change_fits (DT1 m n1 n2) l (against j) = either (look (same j m)) (λ c. rw c (l.1, l.0)) (λ c. rw c tt)
change_fits (DT1 m n1 n2) l every = tt
change_fits (DT2 f n) l (along j) = either (look (same j f)) (λ c. rw c l) (λ c. rw c tt)
change_fits (DT2 f n) l (against j) = either (look (same j f)) (λ c. rw c l) (λ c. rw c tt)
change_fits (DT2 f n) l every = tt
change_fits (AS n k) l w = tt
change_fits (DS n) l (along j) = l
change_fits (DS n) l (against j) = l
change_fits (DS n) l every = tt

-- the parameters of a not and of E
no_fits : {b : Bool} → b ≡ true → (same 0 0 && b) ≡ true
no_fits f = and_in (same_refl 0) f

E_fits : below every_way (suc every_way) ≡ true
unfolding below
E_fits = refl

-- a mu's rule, by the free occurrences of its variable in the body
even_mu : (p : ℕ) (φ ψ : Form) → occ false p ψ ≡ occ false p φ → even (mu p ψ) ≡ even (mu p φ)
unfolding even
even_mu p φ ψ e = cc

even_nu : (p : ℕ) (φ ψ : Form) → occ false p ψ ≡ occ false p φ → even (nu p ψ) ≡ even (nu p φ)
unfolding even
even_nu p φ ψ e = cc

-- the block of a node with a child, given the child's image i
module _ (e : Edit) (l : Legal e) (ts : List Form) (p i : ℕ) (t : below i (length ts) ≡ true) (φ : Form) (kid : Image e φ (get_or ts i top)) where
  module _ (h : below p (suc every_way) ≡ true) where
    dia_shape : (c : Change) → ChangeFits c → Says e (dia (way_of p) φ) (fill ts (block_dia c p (old i)))
        → BlockRight e ts (block_dia c p (old i)) (dia (way_of p) φ)
    unfolding ChangeFits block_dia makes block_fits unary_fits leaf_fits fill atom one two occ even_block even
    dia_shape keep f s = is_right refl (λ _. refl) kid.occurs s (and_in h t)
    dia_shape (added a n) f s =
        is_right refl (λ _. refl) (λ b v. or_self _ ∙ kid.occurs b v) s
        (and_in (and_in h t) (and_in f.0 (and_in E_fits (and_in f.1 t))))
    dia_shape (only_from a n) f s =
        is_right refl (λ _. refl) (λ b v. or_self _ ∙ kid.occurs b v) s
        (and_in (and_in (no_fits f.0) (and_in h t)) (and_in f.0 (and_in E_fits (and_in f.1 t))))
    dia_shape (only_to a n) f s =
        is_right refl (λ _. refl) (λ b v. or_self _ ∙ kid.occurs b v) s
        (and_in (and_in h (and_in (no_fits f.1) t)) (and_in f.0 (and_in E_fits (and_in f.1 t))))
    dia_shape (cut a n) f s =
        is_right refl (λ _. refl) (λ b v. or_self _ ∙ kid.occurs b v) s
        (and_in (and_in (no_fits f.0) (and_in h t)) (and_in h (and_in (no_fits f.1) t)))
    dia_shape (cut_from n) f s = is_right refl (λ _. refl) kid.occurs s (and_in (no_fits f) (and_in h t))
    dia_shape (cut_to n) f s = is_right refl (λ _. refl) kid.occurs s (and_in h (and_in (no_fits f) t))
    dia_shape (cut_off n) f s = is_right refl (λ _. refl) kid.occurs s (and_in (no_fits f) (and_in h (and_in (no_fits f) t)))

    box_shape : (c : Change) → ChangeFits c → Says e (box (way_of p) φ) (fill ts (block_box c p (old i)))
        → BlockRight e ts (block_box c p (old i)) (box (way_of p) φ)
    unfolding ChangeFits block_box makes block_fits unary_fits leaf_fits fill atom one two occ even_block even
    box_shape keep f s = is_right refl (λ _. refl) kid.occurs s (and_in h t)
    box_shape (added a n) f s =
        is_right refl (λ _. refl) (λ b v. or_self _ ∙ kid.occurs b v) s
        (and_in (and_in h t) (and_in (no_fits f.0) (and_in E_fits (and_in (no_fits f.1) t))))
    box_shape (only_from a n) f s =
        is_right refl (λ _. refl) (λ b v. or_self _ ∙ kid.occurs b v) s
        (and_in (and_in f.0 (and_in h t)) (and_in (no_fits f.0) (and_in E_fits (and_in (no_fits f.1) t))))
    box_shape (only_to a n) f s =
        is_right refl (λ _. refl) (λ b v. or_self _ ∙ kid.occurs b v) s
        (and_in (and_in h (and_in f.1 t)) (and_in (no_fits f.0) (and_in E_fits (and_in (no_fits f.1) t))))
    box_shape (cut a n) f s =
        is_right refl (λ _. refl) (λ b v. or_self _ ∙ kid.occurs b v) s
        (and_in (and_in f.0 (and_in h t)) (and_in h (and_in f.1 t)))
    box_shape (cut_from n) f s = is_right refl (λ _. refl) kid.occurs s (and_in f (and_in h t))
    box_shape (cut_to n) f s = is_right refl (λ _. refl) kid.occurs s (and_in h (and_in f t))
    box_shape (cut_off n) f s = is_right refl (λ _. refl) kid.occurs s (and_in f (and_in h (and_in f t)))

    dia_right : BlockRight e ts (block_dia (change e (way_of p)) p (old i)) (dia (way_of p) φ)
    unfolding Holds
    dia_right = dia_shape (change e (way_of p)) (change_fits e l (way_of p)) (λ M v g ρ s k.
        let block = dia_says ts p i M ρ s (change e (way_of p)) in
        let child = kid.says M v g ρ in (
          λ q. block.1 (q.0, q.1, (step_iff M s q.0 e (way_of p)).0 q.2, (child q.0 q.1).0 q.3),
          λ q. let r = block.0 q in (r.0, r.1, (step_iff M s r.0 e (way_of p)).1 r.2, (child r.0 r.1).1 r.3),
        ))

    box_right : BlockRight e ts (block_box (change e (way_of p)) p (old i)) (box (way_of p) φ)
    unfolding Holds
    box_right = box_shape (change e (way_of p)) (change_fits e l (way_of p)) (λ M v g ρ s k.
        let block = box_says ts p i M ρ s (change e (way_of p)) in
        let child = kid.says M v g ρ in (
          λ q. block.1 (λ x j r. (child x j).0 (q x j ((step_iff M s x e (way_of p)).1 r))),
          λ q x j r. (child x j).1 (block.0 q x j ((step_iff M s x e (way_of p)).0 r)),
        ))

  not_right : BlockRight e ts (on k_not 0 (old i)) (neg φ)
  unfolding Holds occ fill one makes block_fits unary_fits even_block even
  not_right =
      is_right refl (λ _. refl) (λ b v. kid.occurs (not b) v)
      (λ M v g ρ s k. let a = kid.says M v g ρ s k in (λ q r. q (a.1 r), λ q r. q (a.0 r)))
      (and_in (same_refl 0) t)

  mu_right : below p variables ≡ true → BlockRight e ts (on k_mu p (old i)) (mu p φ)
  unfolding Holds occ fill one makes block_fits unary_fits even_block
  mu_right h =
      is_right refl (λ r. and_in (even_mu p φ _ (kid.occurs false p) ∙ r) refl) (λ b v. ap (λ x. not (same p v) && x) (kid.occurs b v))
      (λ M v g ρ s k. (
        λ q T c. q T (λ x j r. c x j ((kid.says M v g _ x j).0 r)),
        λ q T c. q T (λ x j r. c x j ((kid.says M v g _ x j).1 r)),
      ))
      (and_in h t)

  nu_right : below p variables ≡ true → BlockRight e ts (on k_nu p (old i)) (nu p φ)
  unfolding Holds occ fill one makes block_fits unary_fits even_block
  nu_right h =
      is_right refl (λ r. and_in (even_nu p φ _ (kid.occurs false p) ∙ r) refl) (λ b v. ap (λ x. not (same p v) && x) (kid.occurs b v))
      (λ M v g ρ s k. (
        λ q. (q.0, λ x j r. (kid.says M v g _ x j).0 (q.1 x j r), q.2),
        λ q. (q.0, λ x j r. (kid.says M v g _ x j).1 (q.1 x j r), q.2),
      ))
      (and_in h t)

-- the block of a node with two children, given their images i and j
module _ (e : Edit) (ts : List Form) (i j : ℕ) (ti : below i (length ts) ≡ true) (tj : below j (length ts) ≡ true) (φ ψ : Form)
    (kid : Image e φ (get_or ts i top)) (kid' : Image e ψ (get_or ts j top)) where
  or_right : BlockRight e ts (join k_or (old i) (old j)) (or φ ψ)
  unfolding Holds occ fill two makes block_fits even_block even
  or_right =
      is_right refl (λ _. refl) (λ b v. ap₂ ◌||◌ (kid.occurs b v) (kid'.occurs b v))
      (λ M v g ρ s k.
      let a = kid.says M v g ρ s k in
      let c = kid'.says M v g ρ s k in
      (λ p. either p (λ q. inl (a.0 q)) (λ q. inr (c.0 q)), λ p. either p (λ q. inl (a.1 q)) (λ q. inr (c.1 q))))
      (and_in ti tj)

  and_right : BlockRight e ts (join k_and (old i) (old j)) (and φ ψ)
  unfolding Holds occ fill two makes block_fits even_block even
  and_right =
      is_right refl (λ _. refl) (λ b v. ap₂ ◌||◌ (kid.occurs b v) (kid'.occurs b v))
      (λ M v g ρ s k.
      let a = kid.says M v g ρ s k in
      let c = kid'.says M v g ρ s k in
      (λ p. (a.0 p.0, c.0 p.1), λ p. (a.1 p.0, c.1 p.1)))
      (and_in ti tj)

-- a node with no child: copied where the edit leaves what it says
copied : {e : Edit} {ts : List Form} (k : Leaf) (p : ℕ) → leaf_fits k p ≡ true → Says e (atom k p) (atom k p) → BlockRight e ts (end k p) (atom k p)
unfolding fill makes block_fits even_block
copied k p f s = is_right refl (λ _. refl) (λ b v. refl) s f

-- CN2's block is at the f-target of @n
module _ (M : Model) (v : Valid M) (ρ : Env) (s : ℕ) (k : s < slots) where
  at : (n : ℕ) → M.place n < slots
  at n = v.small _ (v.named n)

  target_says : (n f : ℕ) → functional f ≡ true
      → (s ≡ target M f (M.place n)) ↔ Holds M ρ (or (dia (against f) (name n)) (and (name 0) (neg (dia (way_of every_way) (and (name n) (dia (along f) top)))))) s
  unfolding Holds target step
  target_says n f func = (
    λ p. either ends
        (λ q. inr (
          p ∙ q.1 ∙ sym v.nil_named,
          λ r. let u = r.3.1 in clash (subst (λ z. M.link f z u.0 ≡ true) r.3.0 u.2) (q.0 u.0 u.1),
        ))
        (λ q. inl (M.place n, at n, subst (λ z. M.link f (M.place n) z ≡ true) (sym p) q, refl)),
    λ p. either p
        (λ q. target_one M v f (M.place n) s func (subst (λ z. M.link f z s ≡ true) q.3 q.2))
        (λ q. either ends
        (λ r. q.0 ∙ v.nil_named ∙ sym r.1)
        (λ r. absurd (q.1 (M.place n, at n, everywhere M s _, (refl, (target M f (M.place n), v.small _ (v.to _ _ _ r).0, r, tt)))))),
  )
    where
      ends : (((t : ℕ) → t < slots → M.link f (M.place n) t ≡ false) × (target M f (M.place n) ≡ 0))
          ⊎ (M.link f (M.place n) (target M f (M.place n)) ≡ true)
      ends = find_ends slots (M.link f (M.place n))

  -- DS's block for a name y other than 0: it is at @y, or at nil where that was @n
  name_says : (n y : ℕ)
      → (s ≡ cond (same (M.place y) (M.place n)) 0 (M.place y))
      ↔ Holds M ρ (or (and (name y) (neg (name n))) (and (name 0) (dia (way_of every_way) (and (name n) (name y))))) s
  unfolding Holds
  name_says n y =
      either
      (look (same (M.place y) (M.place n)))
      (λ a. rw a (
        λ p. inr (p ∙ sym v.nil_named, (M.place n, at n, everywhere M s _, (refl, sym (same_eq a)))),
        λ p. either p (λ q. absurd (q.1 (q.0 ∙ same_eq a))) (λ q. q.0 ∙ v.nil_named),
      ))
      (λ a. rw a (
        λ p. inl (p, λ q. clash (eq_same (sym p ∙ q)) a),
        λ p. either p (λ q. q.0) (λ q. let r = q.1.3 in clash (eq_same (sym r.1 ∙ r.0)) a),
      ))

nil_fits : below 0 names ≡ true
unfolding below
nil_fits = refl

-- the block "nil" is at slot 0
nil_iff : (M : Model) → Valid M → (s : ℕ) → (same s 0 ≡ true) ↔ (s ≡ M.place 0)
nil_iff M v s = (λ p. same_eq p ∙ sym v.nil_named, λ p. eq_same (p ∙ v.nil_named))

leaf_right : (e : Edit) → Legal e → (ts : List Form) (k : Leaf) (p : ℕ) → leaf_fits k p ≡ true → BlockRight e ts (block_leaf e k p) (atom k p)
unfolding Legal Goes Holds edit block_leaf fill atom one two makes block_fits leaf_fits unary_fits even_block even occ
leaf_right e l ts k_true p f = copied k_true p f (λ M v g ρ s j. Iff.rfl)
leaf_right (CN1 n1 n2) l ts k_here p f = copied k_here p f (λ M v g ρ s j. Iff.rfl)
leaf_right (CN2 n1 n2 h) l ts k_here p f = copied k_here p f (λ M v g ρ s j. Iff.rfl)
leaf_right (AP n q) l ts k_here p f = copied k_here p f (λ M v g ρ s j. Iff.rfl)
leaf_right (DP n q) l ts k_here p f = copied k_here p f (λ M v g ρ s j. Iff.rfl)
leaf_right (AT m n1 n2) l ts k_here p f = copied k_here p f (λ M v g ρ s j. Iff.rfl)
leaf_right (RT h n1 n2) l ts k_here p f = copied k_here p f (λ M v g ρ s j. Iff.rfl)
leaf_right (DT1 m n1 n2) l ts k_here p f = copied k_here p f (λ M v g ρ s j. Iff.rfl)
leaf_right (DT2 h n) l ts k_here p f = copied k_here p f (λ M v g ρ s j. Iff.rfl)
leaf_right (AS n k) l ts k_here p f = is_right refl (λ _. refl) (λ b v. refl) (λ M v g ρ s j. or_iff _ _ Iff.rfl (same_iff s k)) (and_in f l.1)
leaf_right (DS n) l ts k_here p f = is_right refl (λ _. refl) (λ b v. refl) (λ M v g ρ s j. and_iff _ _ Iff.rfl (not_iff _ (same_iff s _))) (and_in f (no_fits l))
leaf_right (CN1 n1 n2) l ts k_label p f = copied k_label p f (λ M v g ρ s j. Iff.rfl)
leaf_right (CN2 n1 n2 h) l ts k_label p f = copied k_label p f (λ M v g ρ s j. Iff.rfl)
leaf_right (AP n q) l ts k_label p f =
    either (look (same p q))
    (λ c. rw c (is_right refl (λ _. refl) (λ b v. refl)
    (λ M v g ρ s j. rw c (or_iff _ _ Iff.rfl (and_iff _ _ (same_iff s _) (not_iff _ (nil_iff M v s)))))
    (and_in f (and_in l (no_fits nil_fits)))))
    (λ c. rw c (copied k_label p f (λ M v g ρ s j. rw c Iff.rfl)))
leaf_right (DP n q) l ts k_label p f =
    either (look (same p q))
    (λ c. rw c (is_right refl (λ _. refl) (λ b v. refl) (λ M v g ρ s j. rw c (and_iff _ _ Iff.rfl (not_iff _ (same_iff s _)))) (and_in f (no_fits l))))
    (λ c. rw c (copied k_label p f (λ M v g ρ s j. rw c Iff.rfl)))
leaf_right (AT m n1 n2) l ts k_label p f = copied k_label p f (λ M v g ρ s j. Iff.rfl)
leaf_right (RT h n1 n2) l ts k_label p f = copied k_label p f (λ M v g ρ s j. Iff.rfl)
leaf_right (DT1 m n1 n2) l ts k_label p f = copied k_label p f (λ M v g ρ s j. Iff.rfl)
leaf_right (DT2 h n) l ts k_label p f = copied k_label p f (λ M v g ρ s j. Iff.rfl)
leaf_right (AS n k) l ts k_label p f = copied k_label p f (λ M v g ρ s j. Iff.rfl)
leaf_right (DS n) l ts k_label p f = is_right refl (λ _. refl) (λ b v. refl) (λ M v g ρ s j. and_iff _ _ Iff.rfl (not_iff _ (same_iff s _))) (and_in f (no_fits l))
leaf_right (CN1 n1 n2) l ts k_name y f =
    either (look (same y n1))
    (λ c. rw c (is_right refl (λ _. refl) (λ b v. refl) (λ M v g ρ s j. rw c Iff.rfl) l.1))
    (λ c. rw c (copied k_name y f (λ M v g ρ s j. rw c Iff.rfl)))
leaf_right (CN2 n1 n2 h) l ts k_name y f =
    let small = functional_small h l.2 in
    let forward = below_in h (suc every_way) (omega arith) in
    let reverse = below_in (h + links) (suc every_way) (omega arith) in
    either (look (same y n1))
    (λ c. rw c (is_right refl (λ _. refl) (λ b v. refl)
    (λ M v g ρ s j. rw (c, way_against h small, way_along h small) (target_says M v ρ s j n2 h l.2))
    (and_in (and_in reverse l.1) (and_in nil_fits (no_fits (and_in E_fits (and_in l.1 (and_in forward (same_refl 0)))))))))
    (λ c. rw c (copied k_name y f (λ M v g ρ s j. rw c Iff.rfl)))
leaf_right (AP n q) l ts k_name y f = copied k_name y f (λ M v g ρ s j. Iff.rfl)
leaf_right (DP n q) l ts k_name y f = copied k_name y f (λ M v g ρ s j. Iff.rfl)
leaf_right (AT m n1 n2) l ts k_name y f = copied k_name y f (λ M v g ρ s j. Iff.rfl)
leaf_right (RT h n1 n2) l ts k_name y f = copied k_name y f (λ M v g ρ s j. Iff.rfl)
leaf_right (DT1 m n1 n2) l ts k_name y f = copied k_name y f (λ M v g ρ s j. Iff.rfl)
leaf_right (DT2 h n) l ts k_name y f = copied k_name y f (λ M v g ρ s j. Iff.rfl)
leaf_right (AS n k) l ts k_name y f =
    either (look (same y n))
    (λ c. rw c (is_right refl (λ _. refl) (λ b v. refl) (λ M v g ρ s j. rw c Iff.rfl) l.1))
    (λ c. rw c (copied k_name y f (λ M v g ρ s j. rw c Iff.rfl)))
leaf_right (DS n) l ts k_name y f =
    either (look (same y 0))
    (λ c. rw c (copied k_name y f (λ M v g ρ s j.
    let nil : M.place y ≡ 0 = ap M.place (same_eq c) ∙ v.nil_named in
    let off : same (M.place y) (M.place n) ≡ false = ne_same (λ q. g (sym q ∙ nil)) in
    rw off Iff.rfl)))
    (λ c. rw c (is_right refl (λ _. refl) (λ b v. refl) (λ M v g ρ s j. name_says M v ρ s j n y)
    (and_in (and_in f (no_fits l)) (and_in nil_fits (and_in E_fits (and_in l f))))))
leaf_right e l ts k_var p f = copied k_var p f (λ M v g ρ s j. Iff.rfl)
leaf_right e l ts k_slot p f = copied k_slot p f (λ M v g ρ s j. Iff.rfl)

-- the nodes a and b are the images of the children that a kind has
abbrev pub Kid : Edit → List Form → ℕ → Form → Type 0
Kid e ts a φ = (below a (length ts) ≡ true) × Image e φ (get_or ts a top)

unfoldable pub Kids : Edit → List Form → Kind → ℕ → ℕ → Form → Form → Type 0
Kids e ts (leaf k) a b φ ψ = Unit {0}
Kids e ts (unary k) a b φ ψ = Kid e ts a φ
Kids e ts (binary k) a b φ ψ = Kid e ts a φ × Kid e ts b ψ

pub block_right : (e : Edit) → Legal e → (ts : List Form) (i : ℕ) (x : Node) (k : Kind) → kind_fits i x k ≡ true
    → (a b : ℕ) (φ ψ : Form) → Kids e ts k a b φ ψ → BlockRight e ts (block e k x.param (old a) (old b)) (build k x.param φ ψ)
unfolding block build Kids kind_fits one two unary_fits
block_right e l ts i x (leaf k) f a b φ ψ h = leaf_right e l ts k x.param (and_l _ _ f)
block_right e l ts i x (unary k_not) f a b φ ψ h = not_right e l ts x.param a h.0 φ h.1
block_right e l ts i x (unary k_dia) f a b φ ψ h = dia_right e l ts x.param a h.0 φ h.1 (and_l _ _ f)
block_right e l ts i x (unary k_box) f a b φ ψ h = box_right e l ts x.param a h.0 φ h.1 (and_l _ _ f)
block_right e l ts i x (unary k_mu) f a b φ ψ h = mu_right e l ts x.param a h.0 φ h.1 (and_l _ _ f)
block_right e l ts i x (unary k_nu) f a b φ ψ h = nu_right e l ts x.param a h.0 φ h.1 (and_l _ _ f)
block_right e l ts i x (binary k_or) f a b φ ψ h = or_right e ts a b h.0.0 h.1.0 φ ψ h.0.1 h.1.1
block_right e l ts i x (binary k_and) f a b φ ψ h = and_right e ts a b h.0.0 h.1.0 φ ψ h.0.1 h.1.1
