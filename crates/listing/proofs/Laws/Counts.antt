-- The rounds of a node, from its kind and its children's rounds; and that a loop's rounds come to rest.
use Rattle.std.specs.Prelude.{◌≡◌, ◌⊎◌, List, true, ℕ, ◌+◌, ◌*◌, ◌≤◌, length}
use Rattle.std.proofs.Common.{◌∙◌, subst, inl, inr, ap, arith}
use Rattle.finite.proofs.Laws.Bools.{either}
use Rattle.finite.proofs.Laws.Below.{equal?}
use Rattle.limits.specs.Limits.{slots, not_no, or_no, and_no, dia_no, box_no, mu_no, nu_no}
use Rattle.semantics.specs.Holds.{Env, put, Model}
use Rattle.semantics.specs.Table.{Kind, Leaf, leaf, unary, binary, k_true, k_here, k_label, k_name, k_var, k_slot, k_not, k_dia, k_box, k_mu, k_nu, k_or, k_and, kind_of, build, one, tree_at, nodes_fit, even_table}
use Rattle.semantics.specs.FixedPoint.{iter}
use Rattle.semantics.specs.Eval.{eval}
use Rattle.semantics.proofs.Laws.Eval.{even_tree, table_even}
use Rattle.semantics.specs.Agree.{◌≐◌}
use Rattle.rounds.specs.Count.{loop, enough, rounds}
use Rattle.rounds.proofs.Laws.Nodes.{rounds-atom, rounds-not, rounds-dia, rounds-box, rounds_mu, rounds_nu, rounds-two}
use Rattle.rounds.proofs.Laws.Exact.{mu_rests, nu_rests}
use Rattle.condition.specs.Bytes.{node_at, table_of}
use Rattle.condition.proofs.Laws.Bytes.{length_table}
use Rattle.condition.proofs.Laws.Fits.{node-tree}
use Rattle.condition.proofs.Laws.Limits.{kind_past}
use Rattle.listing_sets.specs.Nodes.{start_of}
use Rattle.listing_sets.proofs.Laws.Nodes.{mu_start, nu_start}

module _ (S : List ℕ) (f : nodes_fit 0 (table_of S) ≡ true) (i : ℕ) (h : 6 * i + 6 ≤ length S) where
  kind_tree : (k : Kind) → kind_of (node_at S i).kind ≡ k
      → tree_at (table_of S) i ≡ build k (node_at S i).param (tree_at (table_of S) (node_at S i).left) (tree_at (table_of S) (node_at S i).right)
  kind_tree k e =
      node-tree S f i h
      ∙ ap (λ (j : Kind). build j (node_at S i).param (tree_at (table_of S) (node_at S i).left) (tree_at (table_of S) (node_at S i).right)) e

  module _ (M : Model) (ρ : Env) where
    leaf-rounds : (k : Leaf) → kind_of (node_at S i).kind ≡ leaf k → rounds M ρ (tree_at (table_of S) i) ≡ 0
    unfolding build
    leaf-rounds k e = ap (rounds M ρ) (kind_tree (leaf k) e) ∙ rounds-atom M ρ k (node_at S i).param

    -- a node that has no child
    pub end_rounds : (not_no ≤ (node_at S i).kind → (node_at S i).kind ≤ nu_no → ⊥) → rounds M ρ (tree_at (table_of S) i) ≡ 0
    unfolding kind_of
    end_rounds h =
        either
        (equal? (node_at S i).kind 0)
        (λ e. leaf-rounds k_true (ap kind_of e))
        (λ n0. either
        (equal? (node_at S i).kind 1)
        (λ e. leaf-rounds k_here (ap kind_of e))
        (λ n1. either
        (equal? (node_at S i).kind 2)
        (λ e. leaf-rounds k_label (ap kind_of e))
        (λ n2. either
        (equal? (node_at S i).kind 3)
        (λ e. leaf-rounds k_name (ap kind_of e))
        (λ n3. either
        (equal? (node_at S i).kind 4)
        (λ e. leaf-rounds k_var (ap kind_of e))
        (λ n4.
        let low : not_no ≤ (node_at S i).kind = omega arith in
        let n : ¬ ((node_at S i).kind ≤ nu_no) = h low in
        leaf-rounds k_slot (kind_past (node_at S i).kind (omega arith)))))))

    pub unary_rounds : ((node_at S i).kind ≡ not_no) ⊎ (((node_at S i).kind ≡ dia_no) ⊎ ((node_at S i).kind ≡ box_no))
        → rounds M ρ (tree_at (table_of S) i) ≡ rounds M ρ (tree_at (table_of S) (node_at S i).left)
    unfolding build kind_of
    unary_rounds (inl e) = ap (rounds M ρ) (kind_tree (unary k_not) (ap kind_of e)) ∙ rounds-not M ρ _ _
    unary_rounds (inr (inl e)) = ap (rounds M ρ) (kind_tree (unary k_dia) (ap kind_of e)) ∙ rounds-dia M ρ _ _
    unary_rounds (inr (inr e)) = ap (rounds M ρ) (kind_tree (unary k_box) (ap kind_of e)) ∙ rounds-box M ρ _ _

    pub binary_rounds : or_no ≤ (node_at S i).kind → (node_at S i).kind ≤ and_no
        → rounds M ρ (tree_at (table_of S) i) ≡ rounds M ρ (tree_at (table_of S) (node_at S i).left) + rounds M ρ (tree_at (table_of S) (node_at S i).right)
    unfolding build kind_of
    binary_rounds l u =
        either
        (equal? (node_at S i).kind or_no)
        (λ e. ap (rounds M ρ) (kind_tree (binary k_or) (ap kind_of e)) ∙ rounds-two M ρ k_or _ _)
        (λ n.
        let e : (node_at S i).kind ≡ and_no = omega arith in
        ap (rounds M ρ) (kind_tree (binary k_and) (ap kind_of e)) ∙ rounds-two M ρ k_and _ _)

    -- a mu or nu of the variable x and the body b
    module _ (x b : ℕ) (ex : x ≡ (node_at S i).param) (eb : b ≡ (node_at S i).left) (l : mu_no ≤ (node_at S i).kind) (u : (node_at S i).kind ≤ nu_no) where
      pub loop-rounds : rounds M ρ (tree_at (table_of S) i)
          ≡ loop enough (λ P. eval M (put ρ x P) (tree_at (table_of S) b)) (λ P. rounds M (put ρ x P) (tree_at (table_of S) b)) (start_of (node_at S i).kind)
      unfolding build kind_of
      loop-rounds =
          either
          (equal? (node_at S i).kind mu_no)
          (λ e. rw (ex, eb, mu_start _ e) (ap (rounds M ρ) (kind_tree (unary k_mu) (ap kind_of e)) ∙ rounds_mu M ρ _ _))
          (λ n.
          let e : (node_at S i).kind ≡ nu_no = omega arith in
          rw (ex, eb, nu_start _ n) (ap (rounds M ρ) (kind_tree (unary k_nu) (ap kind_of e)) ∙ rounds_nu M ρ _ _))

      pub loop_rests : even_table (table_of S) ≡ true
          → eval M (put ρ x (iter slots (λ P. eval M (put ρ x P) (tree_at (table_of S) b)) (start_of (node_at S i).kind))) (tree_at (table_of S) b)
          ≐ iter slots (λ P. eval M (put ρ x P) (tree_at (table_of S) b)) (start_of (node_at S i).kind)
      unfolding build one kind_of
      loop_rests even =
          let n = length_table S in
          let whole = table_even (table_of S) f even i (omega arith) in
          either
          (equal? (node_at S i).kind mu_no)
          (λ e. rw (ex, eb, mu_start _ e) (mu_rests M _ _ (subst (λ φ. even_tree φ ≡ true) (kind_tree (unary k_mu) (ap kind_of e)) whole) ρ))
          (λ n.
          let e : (node_at S i).kind ≡ nu_no = omega arith in
          rw (ex, eb, nu_start _ n) (nu_rests M _ _ (subst (λ φ. even_tree φ ≡ true) (kind_tree (unary k_nu) (ap kind_of e)) whole) ρ))
