-- A table's nodes from its bytes: each fits, and its tree comes from its children's.
use Rattle.std.specs.Prelude.{◌≡◌, refl, List, [], ◌∷◌, Bool, true, false, not, ℕ, suc, ◌+◌, ◌*◌, ◌/◌, ◌≤◌, ◌<◌, length, get_or}
use Rattle.std.proofs.Common.{◌∙◌, ap, subst, arith}
use Rattle.std.proofs.lemmas.Bool.{not-false}
use Rattle.finite.specs.Tests.{below}
use Rattle.finite.proofs.Laws.Bools.{and_in}
use Rattle.finite.proofs.Laws.Below.{below-not, not-below, any_none, none_any}
use Rattle.finite.proofs.Laws.First.{first-none, first_past}
use Rattle.semantics.specs.Table.{Node, kind_of, build, tree_at, node_fits, nodes_fit}
use Rattle.semantics.proofs.Laws.TreeAt.{blank, fits_at_lem, tree-at}
use Rattle.condition.specs.Bytes.{node_at, nodes, table_of}
use Rattle.condition.specs.Refusal.{first_unfit}
use Rattle.condition.proofs.Laws.Bytes.{length-nodes, length_table, nodes-at, table_at}

fits_in : (xs : List Node) (i : ℕ) → ((j : ℕ) → j < length xs → node_fits (i + j) (get_or xs j blank) ≡ true) → nodes_fit i xs ≡ true
unfolding nodes_fit
fits_in [] i h = refl
fits_in (x ∷ xs) i h =
    and_in
    (subst (λ (k : ℕ). node_fits k x ≡ true) (let e : i + 0 ≡ i = omega arith in e) (h 0 (omega arith)))
    (fits_in xs (suc i) (λ j l. subst (λ (k : ℕ). node_fits k (get_or xs j blank) ≡ true) (let e : i + suc j ≡ suc i + j = omega arith in e) (h (suc j) (omega arith))))

-- each node fits exactly where the table's nodes do
pub first_fits : (S : List ℕ) (n : ℕ) → nodes_fit 0 (nodes S n) ≡ true → (i : ℕ) → i < n → node_fits i (node_at S i) ≡ true
first_fits S n f i h = rw (← nodes-at S n blank i h) (fits_at_lem (nodes S n) blank f i (omega (arith, length-nodes S n)))

pub node_fits_lem : (S : List ℕ) → nodes_fit 0 (table_of S) ≡ true → (i : ℕ) → 6 * i + 6 ≤ length S → node_fits i (node_at S i) ≡ true
unfolding table_of
node_fits_lem S f i h = first_fits S (length S / 6) f i (omega arith)

pub nodes_fit_lem : (S : List ℕ) → ((i : ℕ) → 6 * i + 6 ≤ length S → node_fits i (node_at S i) ≡ true) → nodes_fit 0 (table_of S) ≡ true
nodes_fit_lem S h =
    fits_in (table_of S) 0 (λ j l.
    let g : 6 * j + 6 ≤ length S = let e = length_table S in omega arith in
    subst (λ (k : ℕ). node_fits k (get_or (table_of S) j blank) ≡ true) (let e : j ≡ 0 + j = omega arith in e)
    (rw (table_at S blank j g) (h j g)))

-- no node is the lowest that meets item 8 exactly where the table's nodes fit
abbrev unfit : List ℕ → ℕ → Bool
unfit S i = not (node_fits i (node_at S i))

pub none-unfit : (S : List ℕ) → below (first_unfit S) (length (table_of S)) ≡ false → nodes_fit 0 (table_of S) ≡ true
unfolding first_unfit
none-unfit S e =
    let n = length_table S in
    let a = first_past (length (table_of S)) (unfit S) (not-below _ _ e) in
    nodes_fit_lem S (λ i h. not-false _ (any_none (length (table_of S)) (unfit S) a i (omega arith)))

pub fit_none : (S : List ℕ) → nodes_fit 0 (table_of S) ≡ true → below (first_unfit S) (length (table_of S)) ≡ false
unfolding first_unfit
fit_none S f =
    let n = length_table S in
    let e =
    first-none (length (table_of S)) (unfit S) (none_any (length (table_of S)) (unfit S) (λ i h. ap not (node_fits_lem S f i (omega arith)))) in
    below-not _ _ (omega arith)

-- the tree of node i, from the trees of its children
pub node-tree : (S : List ℕ) → nodes_fit 0 (table_of S) ≡ true → (i : ℕ) → 6 * i + 6 ≤ length S
    → tree_at (table_of S) i
    ≡ build (kind_of (node_at S i).kind) (node_at S i).param (tree_at (table_of S) (node_at S i).left) (tree_at (table_of S) (node_at S i).right)
node-tree S f i h =
    let e = length_table S in
    tree-at (table_of S) blank f i (omega arith)
    ∙ ap (λ (x : Node). build (kind_of x.kind) x.param (tree_at (table_of S) x.left) (tree_at (table_of S) x.right)) (table_at S blank i h)
