-- The trees of a table's nodes: each from its children's, which stand before it.
use Rattle.std.specs.Prelude.{◌≡◌, refl, List, [], ◌∷◌, ◌++◌, true, ℕ, zero, suc, ◌+◌, ◌<◌, length, get_or}
use Rattle.std.proofs.Common.{sym, ◌∙◌, ap, ap₂, subst, arith, length-append}
use Rattle.std.proofs.Math.ListN.{get_or-append}
use Rattle.std.proofs.lemmas.List.{get_or_at}
use Rattle.finite.specs.Tests.{same, below}
use Rattle.finite.proofs.Laws.Bools.{and_l, and_r}
use Rattle.finite.proofs.Laws.Below.{below_out}
use Rattle.semantics.specs.Form.{Form, top}
use Rattle.semantics.specs.Table.{Kind, leaf, unary, binary, kind_of, Node, one, two, build, tree, trees, tree_at, unary_fits, kind_fits, node_fits, nodes_fit}

-- a list with one more at its end
pub length_snoc {ℓ} : {A : Type ℓ} (xs : List A) (x : A) → length (xs ++ (x ∷ [])) ≡ suc (length xs)
length_snoc xs x = simp length-append (omega arith)

-- trees of nodes added to a table
pub trees_append : (xs ys : List Node) (ts : List Form) → trees ts (xs ++ ys) ≡ trees (trees ts xs) ys
unfolding trees
trees_append [] ys ts = refl
trees_append (x ∷ xs) ys ts = trees_append xs ys (ts ++ (tree ts x ∷ []))

pub trees-length : (xs : List Node) (ts : List Form) → length (trees ts xs) ≡ length ts + length xs
unfolding trees
trees-length [] ts = omega arith
trees-length (x ∷ xs) ts = omega (arith, trees-length xs (ts ++ (tree ts x ∷ [])), length_snoc ts (tree ts x))

pub table_length : (xs : List Node) → length (trees [] xs) ≡ length xs
table_length xs = omega (arith, trees-length xs [])

pub trees_old : (xs : List Node) (ts : List Form) (i : ℕ) → i < length ts → get_or (trees ts xs) i top ≡ get_or ts i top
unfolding trees
trees_old [] ts i h = refl
trees_old (x ∷ xs) ts i h =
    trees_old xs (ts ++ (tree ts x ∷ [])) i (omega (arith, length_snoc ts (tree ts x)))
    ∙ get_or-append ts (tree ts x ∷ []) top i h

pub trees_new : (x : Node) (xs : List Node) (ts : List Form) → get_or (trees ts (x ∷ xs)) (length ts) top ≡ tree ts x
unfolding trees
trees_new x xs ts =
    trees_old xs (ts ++ (tree ts x ∷ [])) (length ts) (omega (arith, length_snoc ts (tree ts x)))
    ∙ get_or_at ts (tree ts x) [] top (length ts) refl

-- the children that a kind has are lower than the node's number i
unfoldable pub Lower : ℕ → Node → Kind → Type 0
Lower i x (leaf k) = Unit {0}
Lower i x (unary k) = x.left < i
Lower i x (binary k) = (x.left < i) × (x.right < i)

pub fits_lower : (i : ℕ) (x : Node) (k : Kind) → kind_fits i x k ≡ true → Lower i x k
unfolding kind_fits Lower
fits_lower i x (leaf k) f = tt
fits_lower i x (unary k) f = below_out _ _ (and_l _ _ (and_r (unary_fits k x.param) _ f))
fits_lower i x (binary k) f =
    let g = and_r (same x.param 0) _ f in
    (below_out _ _ (and_l _ _ g), below_out _ _ (and_r (below x.left i) _ g))

pub node_kind : (i : ℕ) (x : Node) → node_fits i x ≡ true → kind_fits i x (kind_of x.kind) ≡ true
unfolding node_fits
node_kind i x f = and_r (below x.kind 13) _ f

pub node_lower : (i : ℕ) (x : Node) → node_fits i x ≡ true → Lower i x (kind_of x.kind)
node_lower i x f = fits_lower i x (kind_of x.kind) (node_kind i x f)

-- a table's first node fits, and so do the others
pub fits_first : (i : ℕ) (x : Node) (xs : List Node) → nodes_fit i (x ∷ xs) ≡ true → node_fits i x ≡ true
unfolding nodes_fit
fits_first i x xs f = and_l _ _ f

pub fits_rest : (i : ℕ) (x : Node) (xs : List Node) → nodes_fit i (x ∷ xs) ≡ true → nodes_fit (suc i) xs ≡ true
unfolding nodes_fit
fits_rest i x xs f = and_r (node_fits i x) _ f

-- each node of a table fits
pub fits_from : (xs : List Node) (d : Node) (i : ℕ) → nodes_fit i xs ≡ true → (j : ℕ) → j < length xs → node_fits (i + j) (get_or xs j d) ≡ true
fits_from [] d i f j h = absurd (omega arith)
fits_from (x ∷ xs) d i f zero h = subst (λ (k : ℕ). node_fits k x ≡ true) (omega arith) (fits_first i x xs f)
fits_from (x ∷ xs) d i f (suc j) h =
    subst (λ (k : ℕ). node_fits k (get_or xs j d) ≡ true) (omega arith) (fits_from xs d (suc i) (fits_rest i x xs f) j (omega arith))

pub fits_at_lem : (xs : List Node) (d : Node) → nodes_fit 0 xs ≡ true → (i : ℕ) → i < length xs → node_fits i (get_or xs i d) ≡ true
fits_at_lem xs d f i h = subst (λ (k : ℕ). node_fits k (get_or xs i d) ≡ true) (omega arith) (fits_from xs d 0 f i h)

-- the tree of a node is the same in a longer table
tree_more : (ts : List Form) (ys : List Node) (x : Node) → Lower (length ts) x (kind_of x.kind) → tree (trees ts ys) x ≡ tree ts x
unfolding tree build Lower
tree_more ts ys x f = go (kind_of x.kind) f
  where
    go : (k : Kind) → Lower (length ts) x k
        → build k x.param (get_or (trees ts ys) x.left top) (get_or (trees ts ys) x.right top)
        ≡ build k x.param (get_or ts x.left top) (get_or ts x.right top)
    go (leaf k) g = refl
    go (unary k) g = ap (one k x.param) (trees_old ys ts x.left g)
    go (binary k) g = ap₂ (two k) (trees_old ys ts x.left g.0) (trees_old ys ts x.right g.1)

tree_from : (xs : List Node) (ts : List Form) (d : Node) → nodes_fit (length ts) xs ≡ true → (j : ℕ) → j < length xs
    → get_or (trees ts xs) (length ts + j) top ≡ tree (trees ts xs) (get_or xs j d)
unfolding trees
tree_from [] ts d f j h = absurd (omega arith)
tree_from (x ∷ xs) ts d f zero h =
    ap (λ (i : ℕ). get_or (trees ts (x ∷ xs)) i top) (omega arith)
    ∙ trees_new x xs ts
    ∙ sym (tree_more ts (x ∷ xs) x (node_lower _ x (fits_first _ x xs f)))
tree_from (x ∷ xs) ts d f (suc j) h =
    let n = length_snoc ts (tree ts x) in
    let rest : nodes_fit (length (ts ++ (tree ts x ∷ []))) xs ≡ true =
    subst (λ (m : ℕ). nodes_fit m xs ≡ true) (sym n) (fits_rest _ x xs f) in
    ap (λ (i : ℕ). get_or (trees ts (x ∷ xs)) i top) (omega (arith, n)) ∙ tree_from xs (ts ++ (tree ts x ∷ [])) d rest j (omega arith)

-- the tree of node i of a table, from the trees of its children in the same table: what a recursion on node numbers goes by
pub tree-at : (xs : List Node) (d : Node) → nodes_fit 0 xs ≡ true → (i : ℕ) → i < length xs
    → tree_at xs i
    ≡ build (kind_of (get_or xs i d).kind) (get_or xs i d).param (tree_at xs (get_or xs i d).left) (tree_at xs (get_or xs i d).right)
unfolding tree tree_at
tree-at xs d f i h = ap (λ (j : ℕ). get_or (trees [] xs) j top) (omega arith) ∙ tree_from xs [] d f i h

-- a node to read where there is none
abbrev pub blank : Node
blank = record { kind = 0; param = 0; left = 0; right = 0 }

-- induction on node numbers: what passes from the children's trees to each node's tree holds of all trees of a table
module _ (P : Form → Type 0) where
  unfoldable pub Subtrees : Kind → Form → Form → Type 0
  Subtrees (leaf k) φ ψ = Unit {0}
  Subtrees (unary k) φ ψ = P φ
  Subtrees (binary k) φ ψ = P φ × P ψ

  module _ (xs : List Node) (fits : nodes_fit 0 xs ≡ true)
      (passes : (i : ℕ) (x : Node) (k : Kind) (φ ψ : Form) → i < length xs → get_or xs i blank ≡ x → kind_of x.kind ≡ k
      → kind_fits i x k ≡ true → tree_at xs i ≡ build k x.param φ ψ → Subtrees k φ ψ → P (build k x.param φ ψ)) where
    subtrees : (n : ℕ) (x : Node) (k : Kind) → Lower n x k → ((j : ℕ) → j < n → P (tree_at xs j))
        → Subtrees k (tree_at xs x.left) (tree_at xs x.right)
    unfolding Subtrees Lower
    subtrees n x (leaf k) l h = tt
    subtrees n x (unary k) l h = h _ l
    subtrees n x (binary k) l h = (h _ l.0, h _ l.1)

    trees_to : (n i : ℕ) → i < n → i < length xs → P (tree_at xs i)
    trees_to zero i h k = absurd (omega arith)
    trees_to (suc n) i h k =
        let at = tree-at xs blank fits i k in
        let fit = node_kind i (get_or xs i blank) (fits_at_lem xs blank fits i k) in
        rw at (passes i _ _ _ _ k refl refl fit at (subtrees i _ _ (fits_lower i _ _ fit) (λ j l. trees_to n j (omega arith) (omega arith))))

    pub tree_ind : (i : ℕ) → i < length xs → P (tree_at xs i)
    tree_ind i h = trees_to (suc i) i (omega arith) h
