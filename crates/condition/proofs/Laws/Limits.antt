-- Item 8 and the bounds on a node's fields are one.
use Rattle.std.specs.Prelude.{◌≡◌, refl, Bool, false, ◌&&◌, ℕ, zero, suc, ◌-◌, ◌≤◌, ◌<◌, ltb, true}
use Rattle.std.proofs.Common.{sym, ◌∙◌, ap, ap₂, subst, arith, lt-ltb, le-ltb}
use Rattle.finite.specs.Tests.{same, below}
use Rattle.finite.proofs.Laws.Bools.{either, and_l, and_r, both}
use Rattle.finite.proofs.Laws.Arms.{Missed, missed}
use Rattle.finite.proofs.Laws.Below.{equal?, same_eq, eq_same, below_in, below_out}
use Rattle.limits.specs.Limits.{slots, labels, names, variables, label_no, name_no, var_no, not_no, or_no, and_no, dia_no, mu_no, nu_no, slot_no, kinds}
use Rattle.semantics.specs.Table.{Leaf, k_true, k_here, k_label, k_name, k_var, k_slot, Unary, k_not, k_dia, k_box, k_mu, k_nu, Kind, leaf, unary, binary, kind_of, Node, leaf_fits, unary_fits, kind_fits, node_fits}
use Rattle.condition.specs.Limits.{param_limit, child_limit}

-- a field that is not used
same-below : (n : ℕ) → same n 0 ≡ below n 1
same-below n =
    both
    (λ e. let z = same_eq e in below_in n 1 (omega arith))
    (λ e. let l = below_out n 1 e in eq_same (let z : n ≡ 0 = omega arith in z))

leaf_limit : (k : Leaf) (p : ℕ) → leaf_fits k p ≡ below p (param_limit (leaf k))
unfolding leaf_fits param_limit slots
leaf_limit k_true p = same-below p
leaf_limit k_here p = same-below p
leaf_limit k_label p = refl
leaf_limit k_name p = refl
leaf_limit k_var p = refl
leaf_limit k_slot p = refl

unary_limit : (k : Unary) (p : ℕ) → unary_fits k p ≡ below p (param_limit (unary k))
unfolding unary_fits param_limit
unary_limit k_not p = same-below p
unary_limit k_dia p = refl
unary_limit k_box p = refl
unary_limit k_mu p = refl
unary_limit k_nu p = refl

-- the bounds of the left and right fields of node i
unfoldable pub left_limit : Kind → ℕ → ℕ
left_limit (leaf k) i = 1
left_limit (unary k) i = i
left_limit (binary k) i = i

unfoldable pub right_limit : Kind → ℕ → ℕ
right_limit (leaf k) i = 1
right_limit (unary k) i = 1
right_limit (binary k) i = i

-- each field of the node x with number i, of kind k, is below its bound
unfoldable pub within : ℕ → Node → Kind → Bool
within i x k = below x.param (param_limit k) && (below x.left (left_limit k i) && below x.right (right_limit k i))

kind_limits : (i : ℕ) (x : Node) (k : Kind) → kind_fits i x k ≡ within i x k
unfolding kind_fits within left_limit right_limit param_limit
kind_limits i x (leaf k) =
    ap₂ ◌&&◌ (leaf_limit k x.param) (ap₂ ◌&&◌ (same-below x.left) (same-below x.right))
kind_limits i x (unary k) =
    ap₂ ◌&&◌ (unary_limit k x.param) (ap (λ (b : Bool). below x.left i && b) (same-below x.right))
kind_limits i x (binary k) = ap (λ (b : Bool). b && (below x.left i && below x.right i)) (same-below x.param)

pub node_limits : (i : ℕ) (x : Node) → node_fits i x ≡ (below x.kind kinds && within i x (kind_of x.kind))
unfolding node_fits
node_limits i x = ap (λ (b : Bool). below x.kind kinds && b) (kind_limits i x (kind_of x.kind))

-- ---- the bounds by the kind's number

-- by the kinds 0 to 11, and 12 with what is read as it
pub each_kind : (P : ℕ → Type 0) → P 0 → P 1 → P 2 → P 3 → P 4 → P 5 → P 6 → P 7 → P 8 → P 9 → P 10 → P 11
    → ((k : ℕ) → 12 ≤ k → P k) → (k : ℕ) → P k
each_kind P a0 a1 a2 a3 a4 a5 a6 a7 a8 a9 a10 a11 r zero = a0
each_kind P a0 a1 a2 a3 a4 a5 a6 a7 a8 a9 a10 a11 r (suc zero) = a1
each_kind P a0 a1 a2 a3 a4 a5 a6 a7 a8 a9 a10 a11 r (suc (suc zero)) = a2
each_kind P a0 a1 a2 a3 a4 a5 a6 a7 a8 a9 a10 a11 r (suc (suc (suc zero))) = a3
each_kind P a0 a1 a2 a3 a4 a5 a6 a7 a8 a9 a10 a11 r (suc (suc (suc (suc zero)))) = a4
each_kind P a0 a1 a2 a3 a4 a5 a6 a7 a8 a9 a10 a11 r (suc (suc (suc (suc (suc zero))))) = a5
each_kind P a0 a1 a2 a3 a4 a5 a6 a7 a8 a9 a10 a11 r (suc (suc (suc (suc (suc (suc zero)))))) = a6
each_kind P a0 a1 a2 a3 a4 a5 a6 a7 a8 a9 a10 a11 r (suc (suc (suc (suc (suc (suc (suc zero))))))) = a7
each_kind P a0 a1 a2 a3 a4 a5 a6 a7 a8 a9 a10 a11 r (suc (suc (suc (suc (suc (suc (suc (suc zero)))))))) = a8
each_kind P a0 a1 a2 a3 a4 a5 a6 a7 a8 a9 a10 a11 r (suc (suc (suc (suc (suc (suc (suc (suc (suc zero))))))))) = a9
each_kind P a0 a1 a2 a3 a4 a5 a6 a7 a8 a9 a10 a11 r (suc (suc (suc (suc (suc (suc (suc (suc (suc (suc zero)))))))))) = a10
each_kind P a0 a1 a2 a3 a4 a5 a6 a7 a8 a9 a10 a11 r (suc (suc (suc (suc (suc (suc (suc (suc (suc (suc (suc zero))))))))))) = a11
each_kind P a0 a1 a2 a3 a4 a5 a6 a7 a8 a9 a10 a11 r (suc (suc (suc (suc (suc (suc (suc (suc (suc (suc (suc (suc k)))))))))))) = r _ (omega arith)

pub kind_past : (k : ℕ) → slot_no ≤ k → kind_of k ≡ leaf k_slot
unfolding kind_of
kind_past k h =
    let e : suc (suc (suc (suc (suc (suc (suc (suc (suc (suc (suc (suc (k - 12)))))))))))) ≡ k = omega arith in
    subst (λ (j : ℕ). kind_of j ≡ leaf k_slot) e refl

-- the bound of a slot's parameter, as the last arm of a match on the kind needs it
pub limit_slot : (k : ℕ) → Missed 0 slot_no k → param_limit (kind_of k) ≡ 256
unfolding param_limit
limit_slot k o = rw (kind_past k (missed 0 slot_no k o (omega arith))) refl

-- the bounds of the kinds whose parameter is a number of its own: a label, a name, a variable, and the variable of a loop
pub limit_label : {k : ℕ} → k ≡ label_no → param_limit (kind_of k) ≡ labels
unfolding kind_of param_limit
limit_label e = rw e refl

pub limit_name : {k : ℕ} → k ≡ name_no → param_limit (kind_of k) ≡ names
unfolding kind_of param_limit
limit_name e = rw e refl

pub limit_variable : {k : ℕ} → k ≡ var_no → param_limit (kind_of k) ≡ variables
unfolding kind_of param_limit
limit_variable e = rw e refl

pub limit_loop : (k : ℕ) → mu_no ≤ k → k ≤ nu_no → param_limit (kind_of k) ≡ variables
unfolding kind_of param_limit
limit_loop k h l = either (equal? k mu_no) (λ e. rw e refl) (λ e. rw (let r : k ≡ nu_no = omega arith in r) refl)

pub left_limit_lem : (i k : ℕ) → left_limit (kind_of k) i ≡ child_limit not_no slot_no k i
unfolding kind_of left_limit
left_limit_lem i =
    each_kind _ refl refl refl refl refl refl refl refl refl refl refl refl
    (λ k h. rw (kind_past k h, le-ltb k not_no (omega arith), le-ltb k slot_no h) refl)

pub right_limit_lem : (i k : ℕ) → right_limit (kind_of k) i ≡ child_limit or_no dia_no k i
unfolding kind_of right_limit
right_limit_lem i =
    each_kind _ refl refl refl refl refl refl refl refl refl refl refl refl
    (λ k h. rw (kind_past k h, le-ltb k or_no (omega arith), le-ltb k dia_no (omega arith)) refl)

-- a field is below i, or is not used and below 1
limits_low : (i : ℕ) (k : Kind) → (left_limit k i ≤ suc (i - 1)) × (right_limit k i ≤ suc (i - 1))
unfolding left_limit right_limit
limits_low i (leaf k) = (omega arith, omega arith)
limits_low i (unary k) = (omega arith, omega arith)
limits_low i (binary k) = (omega arith, omega arith)

-- ---- what a node that fits has: children that are lower, and a parameter below its kind's bound

module _ (i : ℕ) (x : Node) (f : node_fits i x ≡ true) where
  inside : within i x (kind_of x.kind) ≡ true
  inside = and_r (below x.kind kinds) _ (sym (node_limits i x) ∙ f)

  pub kind_known : x.kind < kinds
  kind_known = below_out x.kind kinds (and_l _ _ (sym (node_limits i x) ∙ f))

  -- whether its kind uses them or not
  pub fields_low : (x.left ≤ i - 1) × (x.right ≤ i - 1)
  unfolding within
  fields_low =
      let b = and_r (below x.param _) _ inside in let m = limits_low i (kind_of x.kind) in
      (omega (arith, m.0, below_out _ _ (and_l _ _ b)), omega (arith, m.1, below_out _ _ (and_r (below x.left _) _ b)))

  pub param_lower : x.param < param_limit (kind_of x.kind)
  unfolding within
  param_lower = below_out _ _ (and_l _ _ inside)

  pub left_lower : not_no ≤ x.kind → x.kind ≤ nu_no → x.left < i
  unfolding within
  left_lower h l =
      let b : below x.left (left_limit (kind_of x.kind) i) ≡ true = and_l _ _ (and_r (below x.param _) _ inside) in
      below_out x.left i (rw (left_limit_lem i x.kind, le-ltb x.kind not_no h, lt-ltb x.kind slot_no (omega arith)) at b)

  pub right_lower : or_no ≤ x.kind → x.kind ≤ and_no → x.right < i
  unfolding within
  right_lower h l =
      let b : below x.right (right_limit (kind_of x.kind) i) ≡ true =
      and_r (below x.left _) _ (and_r (below x.param _) _ inside) in
      below_out x.right i (rw (right_limit_lem i x.kind, le-ltb x.kind or_no h, lt-ltb x.kind dia_no (omega arith)) at b)

-- ---- the test of a node, all fields at once

four : (a b c d : Bool) → (((a && b) && c) && d) ≡ (a && (b && (c && d)))
four true true c d = refl
four true false c d = refl
four false b c d = refl

pub all_fields : (i : ℕ) (x : Node) {k p m l n r o : ℕ} → k ≡ x.kind → p ≡ x.param → m ≡ param_limit (kind_of k) → l ≡ x.left
    → n ≡ child_limit not_no slot_no k i → r ≡ x.right → o ≡ child_limit or_no dia_no k i
    → (((ltb k kinds && ltb p m) && ltb l n) && ltb r o) ≡ node_fits i x
unfolding within below
all_fields i x {k} {p} {m} {l} {n} {r} {o} e ep em el cn er co =
    let en : n ≡ left_limit (kind_of k) i = cn ∙ sym (left_limit_lem i k) in
    let eo : o ≡ right_limit (kind_of k) i = co ∙ sym (right_limit_lem i k) in
    rw (node_limits i x, ← e, ← em, ← ep, ← en, ← el, ← eo, ← er) (four (ltb k kinds) (ltb p m) (ltb l n) (ltb r o))
