-- The set of a condition, computed, and that it is the set of the slots where the condition holds.
use Rattle.std.specs.Prelude.{◌≡◌, refl, ◌↔◌, List, Bool, true, false, not, ◌&&◌, ℕ, ◌<◌, length}
use Rattle.std.proofs.Common.{sym, ◌∙◌, ap}
use mathlib.Core.Logic.Iff
use Rattle.finite.proofs.Laws.Bools.{no_true, and_in, and_l, and_r, not_out}
use Rattle.finite.proofs.Laws.Below.{all_out}
use Rattle.finite.proofs.Laws.Reflect.{same_iff, not_iff, and_iff, or_iff, some_iff, every_iff}
use Rattle.limits.specs.Limits.{slots}
use Rattle.semantics.specs.Form.{Form, top, here, label, name, var, neg, or, and, dia, box, mu, nu, slot, occ, even}
use Rattle.semantics.specs.Holds.{Set, Env, put, Model, step, Holds}
use Rattle.semantics.specs.Table.{Leaf, k_true, k_here, k_label, k_name, k_var, k_slot, Unary, k_not, k_dia, k_box, k_mu, k_nu, Binary, k_or, k_and, Kind, leaf, unary, binary, Node, atom, one, two, build, tree_at, nodes_fit, even_table}
use Rattle.semantics.proofs.Laws.TreeAt.{Subtrees, tree_ind}
use Rattle.semantics.specs.Monotone.{◌⊆◌}
use Rattle.semantics.proofs.Laws.Monotone.{mono_put}
use Rattle.semantics.specs.FixedPoint.{iter, none, full}
use Rattle.semantics.proofs.Laws.FixedPoint.{settled, least, settled_full, greatest}
use Rattle.semantics.specs.Eval.{eval}

-- the even rule at every mu and nu of a tree
unfoldable pub even_tree : Form → Bool
even_tree top = true
even_tree here = true
even_tree (label p) = true
even_tree (name n) = true
even_tree (var u) = true
even_tree (neg φ) = even_tree φ
even_tree (or φ ψ) = even_tree φ && even_tree ψ
even_tree (and φ ψ) = even_tree φ && even_tree ψ
even_tree (dia w φ) = even_tree φ
even_tree (box w φ) = even_tree φ
even_tree (mu u φ) = even (mu u φ) && even_tree φ
even_tree (nu u φ) = even (nu u φ) && even_tree φ
even_tree (slot k) = true

module _ (M : Model) where
  -- the map that a body is to its variable's set grows, once the body's value is what holds
  pub body_grows : (φ : Form) → ((ρ : Env) (s : ℕ) → s < slots → (eval M ρ φ s ≡ true) ↔ Holds M ρ φ s)
      → (ρ : Env) (v : ℕ) → not (occ false v φ) ≡ true → (S S' : Set) → S ⊆ S' → eval M (put ρ v S) φ ⊆ eval M (put ρ v S') φ
  body_grows φ ih ρ v even S S' h x k p =
      (ih _ x k).1 (mono_put M φ ρ v (no_true (not_out _ even)) S S' h x k ((ih _ x k).0 p))

  pub eval-holds : (φ : Form) → even_tree φ ≡ true → (ρ : Env) (s : ℕ) → s < slots → (eval M ρ φ s ≡ true) ↔ Holds M ρ φ s
  unfolding eval Holds even even_tree
  eval-holds top w ρ s h = (λ p. tt, λ p. refl)
  eval-holds here w ρ s h = Iff.rfl
  eval-holds (label _) w ρ s h = Iff.rfl
  eval-holds (name n) w ρ s h = same_iff s _
  eval-holds (var v) w ρ s h = Iff.rfl
  eval-holds (neg φ) w ρ s h = not_iff _ (eval-holds φ w ρ s h)
  eval-holds (or φ ψ) w ρ s h = or_iff _ _ (eval-holds φ (and_l _ _ w) ρ s h) (eval-holds ψ (and_r (even_tree φ) _ w) ρ s h)
  eval-holds (and φ ψ) w ρ s h = and_iff _ _ (eval-holds φ (and_l _ _ w) ρ s h) (eval-holds ψ (and_r (even_tree φ) _ w) ρ s h)
  eval-holds (dia d φ) w ρ s h = some_iff slots (step M d s) (eval M ρ φ) (eval-holds φ w ρ)
  eval-holds (box d φ) w ρ s h = every_iff slots (step M d s) (eval M ρ φ) (eval-holds φ w ρ)
  eval-holds (mu v φ) w ρ s h =
      let F : Set → Set = λ S. eval M (put ρ v S) φ in
      let ih = eval-holds φ (and_r (even (mu v φ)) _ w) in
      let grows = body_grows φ ih ρ v (and_l _ _ w) in (
        λ p S c. least F grows S (λ x k q. c x k ((ih _ x k).0 q)) slots s h p,
        λ p. p (iter slots F none) (λ x k q. settled F grows x k ((ih _ x k).1 q)),
      )
  eval-holds (nu v φ) w ρ s h =
      let F : Set → Set = λ S. eval M (put ρ v S) φ in
      let ih = eval-holds φ (and_r (even (nu v φ)) _ w) in
      let grows = body_grows φ ih ρ v (and_l _ _ w) in (
        λ p. (iter slots F full, (λ x k q. (ih _ x k).0 (settled_full F grows x k q)), p),
        λ p. greatest F grows p.0 (λ x k q. (ih _ x k).1 (p.1 x k q)) slots s h p.2,
      )
  eval-holds (slot k) w ρ s h = same_iff s k

-- the even rule of a node's tree, from the rule at the node and its children's trees
pub atom-even : (k : Leaf) (p : ℕ) → even_tree (atom k p) ≡ true
unfolding even_tree atom
atom-even k_true p = refl
atom-even k_here p = refl
atom-even k_label p = refl
atom-even k_name p = refl
atom-even k_var p = refl
atom-even k_slot p = refl

pub one-even : (k : Unary) (p : ℕ) (φ : Form) → even_tree (one k p φ) ≡ (even (one k p φ) && even_tree φ)
unfolding even_tree even one
one-even k_not p φ = refl
one-even k_dia p φ = refl
one-even k_box p φ = refl
one-even k_mu p φ = refl
one-even k_nu p φ = refl

pub two-even : (k : Binary) (φ ψ : Form) → even_tree (two k φ ψ) ≡ (even_tree φ && even_tree ψ)
unfolding even_tree two
two-even k_or φ ψ = refl
two-even k_and φ ψ = refl

-- the rule at every node of a table is that of all its trees
pub table_even : (xs : List Node) → nodes_fit 0 xs ≡ true → even_table xs ≡ true → (i : ℕ) → i < length xs → even_tree (tree_at xs i) ≡ true
unfolding even_table build Subtrees
table_even xs f e =
    tree_ind (λ φ. even_tree φ ≡ true) xs f
    (λ i x k φ ψ h _ _ _ at subtrees. go k x.param φ ψ (ap even (sym at) ∙ all_out (length xs) _ e i h) subtrees)
  where
    go : (k : Kind) (p : ℕ) (φ ψ : Form) → even (build k p φ ψ) ≡ true → Subtrees (λ χ. even_tree χ ≡ true) k φ ψ → even_tree (build k p φ ψ) ≡ true
    go (leaf k) p φ ψ h q = atom-even k p
    go (unary k) p φ ψ h q = one-even k p φ ∙ and_in h q
    go (binary k) p φ ψ h q = two-even k φ ψ ∙ and_in q.0 q.1

-- the computed set of each node of a table is that of the slots which its condition lists
pub eval_table : (xs : List Node) → nodes_fit 0 xs ≡ true → even_table xs ≡ true → (i : ℕ) → i < length xs
    → (M : Model) (ρ : Env) (s : ℕ) → s < slots → (eval M ρ (tree_at xs i) s ≡ true) ↔ Holds M ρ (tree_at xs i) s
eval_table xs f e i h M ρ s k =
    eval-holds M (tree_at xs i) (table_even xs f e i h) ρ s k
