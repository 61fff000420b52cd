-- The set of a node, from its kind and its children's sets.
use Rattle.std.specs.Prelude.{◌≡◌, ◌⊎◌, ◌≢◌, List, true, ℕ, ◌+◌, ◌*◌, ◌≤◌, length, not, ◌&&◌, ◌||◌, cond}
use Rattle.std.proofs.Common.{◌∙◌, inl, inr, sym, ap, ap₂, arith}
use Rattle.finite.specs.Tests.{same, any, all}
use Rattle.finite.proofs.Laws.Bools.{either}
use Rattle.finite.proofs.Laws.Below.{equal?, eq_same, ne_same, any_cong, all_cong}
use Rattle.limits.specs.Limits.{slots, true_no, here_no, label_no, name_no, var_no, not_no, or_no, and_no, dia_no, box_no, mu_no, nu_no, slot_no}
use Rattle.semantics.specs.Form.{Form, var}
use Rattle.semantics.specs.Holds.{Set, Env, put, Model, step}
use Rattle.semantics.specs.Table.{k_true, k_here, k_label, k_name, k_var, k_slot, k_not, k_dia, k_box, k_mu, k_nu, k_or, k_and, Kind, leaf, unary, binary, kind_of, way_of, Node, atom, one, two, build, tree_at, nodes_fit}
use Rattle.semantics.specs.FixedPoint.{iter, none, full}
use Rattle.semantics.specs.Eval.{eval}
use Rattle.semantics.specs.Agree.{◌≐◌}
use Rattle.condition.specs.Bytes.{node_at, table_of}
use Rattle.condition.proofs.Laws.Fits.{node-tree}
use Rattle.condition.proofs.Laws.Limits.{kind_past}
use Rattle.listing_sets.specs.Nodes.{node_makes, start_of}

module _ (S : List ℕ) (f : nodes_fit 0 (table_of S) ≡ true) (i : ℕ) (h : 6 * i + 6 ≤ length S) (M : Model) (ρ : Env) where
  -- the set of node i, of kind k
  pub node-eval : (k : Kind) → kind_of (node_at S i).kind ≡ k → (s : ℕ)
      → eval M ρ (tree_at (table_of S) i) s
      ≡ eval M ρ (build k (node_at S i).param (tree_at (table_of S) (node_at S i).left) (tree_at (table_of S) (node_at S i).right)) s
  node-eval k e s =
      ap (λ (φ : Form). eval M ρ φ s)
      (node-tree S f i h
      ∙ ap (λ (j : Kind). build j (node_at S i).param (tree_at (table_of S) (node_at S i).left) (tree_at (table_of S) (node_at S i).right)) e)

  -- leaves, by the kind's number
  module _ (s : ℕ) where
    pub is_true : (node_at S i).kind ≡ true_no → eval M ρ (tree_at (table_of S) i) s ≡ true
    unfolding eval build atom kind_of
    is_true e = node-eval (leaf k_true) (ap kind_of e) s

    pub is_here : (node_at S i).kind ≡ here_no → eval M ρ (tree_at (table_of S) i) s ≡ M.present s
    unfolding eval build atom kind_of
    is_here e = node-eval (leaf k_here) (ap kind_of e) s

    pub is_label : (node_at S i).kind ≡ label_no → eval M ρ (tree_at (table_of S) i) s ≡ M.marked (node_at S i).param s
    unfolding eval build atom kind_of
    is_label e = node-eval (leaf k_label) (ap kind_of e) s

    pub is_name : (node_at S i).kind ≡ name_no → eval M ρ (tree_at (table_of S) i) s ≡ same s (M.place (node_at S i).param)
    unfolding eval build atom kind_of
    is_name e = node-eval (leaf k_name) (ap kind_of e) s

    pub is_variable : (node_at S i).kind ≡ var_no → eval M ρ (tree_at (table_of S) i) s ≡ ρ (node_at S i).param s
    unfolding eval build atom kind_of
    is_variable e = node-eval (leaf k_var) (ap kind_of e) s

    pub is_slot : slot_no ≤ (node_at S i).kind → eval M ρ (tree_at (table_of S) i) s ≡ same s (node_at S i).param
    unfolding eval build atom
    is_slot l = node-eval (leaf k_slot) (kind_past (node_at S i).kind l) s

-- what a node makes of two sets, by the kind's number
module _ (M : Model) (x : Node) (P Q : Set) (s : ℕ) where
  makes_kind : (k : Kind) → kind_of x.kind ≡ k
      → node_makes M x P Q s ≡ eval M (λ v. cond (same v 0) P Q) (build k x.param (var 0) (var 1)) s
  unfolding node_makes
  makes_kind k e = ap (λ (j : Kind). eval M (λ v. cond (same v 0) P Q) (build j x.param (var 0) (var 1)) s) e

  pub makes-not : x.kind ≡ not_no → node_makes M x P Q s ≡ not (P s)
  unfolding eval build one kind_of same
  makes-not e = makes_kind (unary k_not) (ap kind_of e)

  pub makes_or : x.kind ≡ or_no → node_makes M x P Q s ≡ (P s || Q s)
  unfolding eval build two kind_of same
  makes_or e = makes_kind (binary k_or) (ap kind_of e)

  pub makes_and : x.kind ≡ and_no → node_makes M x P Q s ≡ (P s && Q s)
  unfolding eval build two kind_of same
  makes_and e = makes_kind (binary k_and) (ap kind_of e)

  pub makes_diamond : x.kind ≡ dia_no → node_makes M x P Q s ≡ any slots (λ t. step M (way_of x.param) s t && P t)
  unfolding eval build one kind_of same
  makes_diamond e = makes_kind (unary k_dia) (ap kind_of e)

  pub makes-box : x.kind ≡ box_no → node_makes M x P Q s ≡ all slots (λ t. not (step M (way_of x.param) s t) || P t)
  unfolding eval build one kind_of same
  makes-box e = makes_kind (unary k_box) (ap kind_of e)

-- the set of a node that is not a loop is what it makes of its children's sets
module _ (S : List ℕ) (f : nodes_fit 0 (table_of S) ≡ true) (i : ℕ) (h : 6 * i + 6 ≤ length S) (M : Model) (ρ : Env) (P Q : Set)
    (l : P ≐ eval M ρ (tree_at (table_of S) (node_at S i).left)) where
  pub is_unary : ((node_at S i).kind ≡ not_no) ⊎ (((node_at S i).kind ≡ dia_no) ⊎ ((node_at S i).kind ≡ box_no)) → node_makes M (node_at S i) P Q ≐ eval M ρ (tree_at (table_of S) i)
  unfolding eval build one kind_of
  is_unary (inl e) s k = makes-not M (node_at S i) P Q s e ∙ ap not (l s k) ∙ sym (node-eval S f i h M ρ (unary k_not) (ap kind_of e) s)
  is_unary (inr (inl e)) s k =
      makes_diamond M (node_at S i) P Q s e
      ∙ any_cong slots _ _ (λ t q. ap (◌&&◌ (step M (way_of (node_at S i).param) s t)) (l t q))
      ∙ sym (node-eval S f i h M ρ (unary k_dia) (ap kind_of e) s)
  is_unary (inr (inr e)) s k =
      makes-box M (node_at S i) P Q s e
      ∙ all_cong slots _ _ (λ t q. ap (◌||◌ (not (step M (way_of (node_at S i).param) s t))) (l t q))
      ∙ sym (node-eval S f i h M ρ (unary k_box) (ap kind_of e) s)

  pub is_binary : or_no ≤ (node_at S i).kind → (node_at S i).kind ≤ and_no → Q ≐ eval M ρ (tree_at (table_of S) (node_at S i).right)
      → node_makes M (node_at S i) P Q ≐ eval M ρ (tree_at (table_of S) i)
  unfolding eval build two kind_of
  is_binary a b r s k =
      either
      (equal? (node_at S i).kind or_no)
      (λ e. makes_or M (node_at S i) P Q s e ∙ ap₂ ◌||◌ (l s k) (r s k) ∙ sym (node-eval S f i h M ρ (binary k_or) (ap kind_of e) s))
      (λ n.
      let e : (node_at S i).kind ≡ and_no = omega arith in
      makes_and M (node_at S i) P Q s e ∙ ap₂ ◌&&◌ (l s k) (r s k) ∙ sym (node-eval S f i h M ρ (binary k_and) (ap kind_of e) s))

-- the rounds' start, by the kind's number
pub mu_start : (k : ℕ) → k ≡ mu_no → start_of k ≡ none
unfolding start_of
mu_start k e = rw (eq_same e)

pub nu_start : (k : ℕ) → k ≢ mu_no → start_of k ≡ full
unfolding start_of
nu_start k n = rw (ne_same n)

-- the set of a mu or nu of the variable x and the body b is what the rounds come to
module _ (S : List ℕ) (f : nodes_fit 0 (table_of S) ≡ true) (i : ℕ) (h : 6 * i + 6 ≤ length S) (M : Model) (ρ : Env) (x b : ℕ)
    (ex : x ≡ (node_at S i).param) (eb : b ≡ (node_at S i).left) where
  pub is_loop : mu_no ≤ (node_at S i).kind → (node_at S i).kind ≤ nu_no
      → eval M ρ (tree_at (table_of S) i) ≐ iter slots (λ P. eval M (put ρ x P) (tree_at (table_of S) b)) (start_of (node_at S i).kind)
  unfolding eval build one kind_of
  is_loop l u s k =
      either
      (equal? (node_at S i).kind mu_no)
      (λ e. rw (ex, eb, mu_start _ e) (node-eval S f i h M ρ (unary k_mu) (ap kind_of e) s))
      (λ n.
      let e : (node_at S i).kind ≡ nu_no = omega arith in
      rw (ex, eb, nu_start _ n) (node-eval S f i h M ρ (unary k_nu) (ap kind_of e) s))
