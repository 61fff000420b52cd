-- Blocks written as nodes: their number, that they fit a table, and the trees that they have there.
use Rattle.std.specs.Prelude.{◌≡◌, refl, List, [], ◌∷◌, ◌++◌, Bool, true, ◌&&◌, ℕ, suc, ◌+◌, ◌≤◌, ◌<◌, length, get_or}
use Rattle.std.proofs.Common.{sym, ◌∙◌, ap, ap₂, subst, arith, length-append}
use Rattle.finite.specs.Tests.{below}
use Rattle.finite.proofs.Laws.Bools.{either, and_in, and_l, and_r}
use Rattle.finite.proofs.Laws.Below.{equal?, same_refl, below_in, below_out}
use Rattle.semantics.specs.Form.{Form, top, even}
use Rattle.semantics.specs.Table.{Leaf, k_true, k_here, k_label, k_name, k_var, k_slot, k_not, k_dia, k_box, k_mu, k_nu, Binary, k_or, k_and, Kind, leaf, unary, binary, kind_no, kind_of, Node, atom, one, two, build, tree, trees, leaf_fits, unary_fits, kind_fits, node_fits, nodes_fit}
use Rattle.semantics.specs.Block.{Block, old, end, on, join, size, root, emit}
use Rattle.semantics.proofs.Laws.TreeAt.{trees_append, trees-length, trees_old, trees_new}

-- a kind's number is read back
pub kind_kind : (k : Kind) → kind_of (kind_no k) ≡ k
unfolding kind_of kind_no
kind_kind (leaf k_true) = refl
kind_kind (leaf k_here) = refl
kind_kind (leaf k_label) = refl
kind_kind (leaf k_name) = refl
kind_kind (leaf k_var) = refl
kind_kind (leaf k_slot) = refl
kind_kind (unary k_not) = refl
kind_kind (unary k_dia) = refl
kind_kind (unary k_box) = refl
kind_kind (unary k_mu) = refl
kind_kind (unary k_nu) = refl
kind_kind (binary k_or) = refl
kind_kind (binary k_and) = refl

kind_known : (k : Kind) → below (kind_no k) 13 ≡ true
unfolding kind_no below
kind_known (leaf k_true) = refl
kind_known (leaf k_here) = refl
kind_known (leaf k_label) = refl
kind_known (leaf k_name) = refl
kind_known (leaf k_var) = refl
kind_known (leaf k_slot) = refl
kind_known (unary k_not) = refl
kind_known (unary k_dia) = refl
kind_known (unary k_box) = refl
kind_known (unary k_mu) = refl
kind_known (unary k_nu) = refl
kind_known (binary k_or) = refl
kind_known (binary k_and) = refl

-- a node with the number of a kind is a node of that kind
pub kind_tree : (ts : List Form) (x : Node) (k : Kind) → x.kind ≡ kind_no k
    → tree ts x ≡ build k x.param (get_or ts x.left top) (get_or ts x.right top)
unfolding tree
kind_tree ts x k e =
    ap (λ (c : Kind). build c x.param (get_or ts x.left top) (get_or ts x.right top)) (ap kind_of e ∙ kind_kind k)

node_fits_lem : (i : ℕ) (x : Node) (k : Kind) → x.kind ≡ kind_no k → kind_fits i x k ≡ true → node_fits i x ≡ true
unfolding node_fits
node_fits_lem i x k e f =
    and_in (ap (λ (n : ℕ). below n 13) e ∙ kind_known k) (subst (λ (c : Kind). kind_fits i x c ≡ true) (sym (ap kind_of e ∙ kind_kind k)) f)

pub fits_append : (i : ℕ) (xs ys : List Node) → nodes_fit i xs ≡ true → nodes_fit (i + length xs) ys ≡ true → nodes_fit i (xs ++ ys) ≡ true
unfolding nodes_fit
fits_append i [] ys f g = subst (λ (n : ℕ). nodes_fit n ys ≡ true) (omega arith) g
fits_append i (x ∷ xs) ys f g =
    and_in (and_l (node_fits i x) _ f)
    (fits_append (suc i) xs ys (and_r (node_fits i x) _ f) (subst (λ (n : ℕ). nodes_fit n ys ≡ true) (omega arith) g))

fits_one : (i : ℕ) (x : Node) → node_fits i x ≡ true → nodes_fit i (x ∷ []) ≡ true
unfolding nodes_fit
fits_one i x f = and_in f refl

-- a block over nodes below n, with parameters in range
unfoldable pub block_fits : ℕ → Block → Bool
block_fits n (old i) = below i n
block_fits n (end k p) = leaf_fits k p
block_fits n (on k p x) = unary_fits k p && block_fits n x
block_fits n (join k x y) = block_fits n x && block_fits n y

pub fits_more : (n m : ℕ) → n ≤ m → (B : Block) → block_fits n B ≡ true → block_fits m B ≡ true
unfolding block_fits
fits_more n m h (old i) f = below_in i m (omega (arith, below_out i n f))
fits_more n m h (end k p) f = f
fits_more n m h (on k p x) f = and_in (and_l (unary_fits k p) _ f) (fits_more n m h x (and_r (unary_fits k p) _ f))
fits_more n m h (join k x y) f = and_in (fits_more n m h x (and_l _ _ f)) (fits_more n m h y (and_r (block_fits n x) _ f))

pub root_below : (b : ℕ) (B : Block) → block_fits b B ≡ true → root B b < b + size B
unfolding block_fits root size
root_below b (old i) f = omega (arith, below_out i b f)
root_below b (end k p) f = omega arith
root_below b (on k p x) f = omega arith
root_below b (join k x y) f = omega arith

pub emit-length : (B : Block) (b : ℕ) → length (emit B b) ≡ size B
unfolding emit size
emit-length (old i) b = refl
emit-length (end k p) b = refl
emit-length (on k p x) b = simp length-append (omega (arith, emit-length x b))
emit-length (join k x y) b = simp length-append (omega (arith, emit-length x b, emit-length y (b + size x)))

-- a block's nodes fit from the number on at which they are written
pub emit_fits : (B : Block) (b : ℕ) → block_fits b B ≡ true → nodes_fit b (emit B b) ≡ true
unfolding emit block_fits nodes_fit kind_fits
emit_fits (old i) b f = refl
emit_fits (end k p) b f = fits_one b _ (node_fits_lem b _ (leaf k) refl (and_in f (and_in (same_refl 0) (same_refl 0))))
emit_fits (on k p x) b f =
    let g = and_r (unary_fits k p) _ f in
    let l : root x b < b + length (emit x b) = omega (arith, root_below b x g, emit-length x b) in
    fits_append b (emit x b) _ (emit_fits x b g)
    (fits_one _ _ (node_fits_lem _ _ (unary k) refl (and_in (and_l (unary_fits k p) _ f) (and_in (below_in _ _ l) (same_refl 0)))))
emit_fits (join k x y) b f =
    let c = b + size x in
    let n : Node = record { kind = kind_no (binary k); param = 0; left = root x b; right = root y c } in
    let fx = and_l (block_fits b x) _ f in
    let fy = fits_more b c (omega arith) y (and_r (block_fits b x) _ f) in
    let e : c ≡ b + length (emit x b) = omega (arith, emit-length x b) in
    let l : root x b < c + length (emit y c) = omega (arith, root_below b x fx) in
    let r : root y c < c + length (emit y c) = omega (arith, root_below c y fy, emit-length y c) in
    fits_append b (emit x b) (emit y c ++ (n ∷ [])) (emit_fits x b fx)
    (subst (λ (j : ℕ). nodes_fit j (emit y c ++ (n ∷ [])) ≡ true) e
    (fits_append c (emit y c) (n ∷ []) (emit_fits y c fy)
    (fits_one _ n (node_fits_lem _ n (binary k) refl (and_in (same_refl 0) (and_in (below_in _ _ l) (below_in _ _ r)))))))

-- the tree of a block, over the trees of the nodes that stand already
unfoldable pub fill : List Form → Block → Form
fill ts (old i) = get_or ts i top
fill ts (end k p) = atom k p
fill ts (on k p x) = one k p (fill ts x)
fill ts (join k x y) = two k (fill ts x) (fill ts y)

fill_more : (xs : List Node) (ts : List Form) (B : Block) → block_fits (length ts) B ≡ true → fill (trees ts xs) B ≡ fill ts B
unfolding fill block_fits
fill_more xs ts (old i) f = trees_old xs ts i (below_out _ _ f)
fill_more xs ts (end k p) f = refl
fill_more xs ts (on k p x) f = ap (one k p) (fill_more xs ts x (and_r (unary_fits k p) _ f))
fill_more xs ts (join k x y) f = ap₂ (two k) (fill_more xs ts x (and_l _ _ f)) (fill_more xs ts y (and_r (block_fits (length ts) x) _ f))

last-tree : (ts : List Form) (x : Node) (k : Kind) (i : ℕ) → length ts ≡ i → x.kind ≡ kind_no k
    → get_or (trees ts (x ∷ [])) i top ≡ build k x.param (get_or ts x.left top) (get_or ts x.right top)
last-tree ts x k i n e = ap (λ (j : ℕ). get_or (trees ts (x ∷ [])) j top) (sym n) ∙ trees_new x [] ts ∙ kind_tree ts x k e

-- the image of a block has the block's tree
abbrev Ends : Block → Type 0
Ends B = (ts : List Form) → block_fits (length ts) B ≡ true → get_or (trees ts (emit B (length ts))) (root B (length ts)) top ≡ fill ts B

-- two blocks one after the other: the images of both, given that of each
module _ (x y : Block) (ts : List Form) where
  abbrev pub next : ℕ
  next = length ts + size x

  abbrev pub trees1 : List Form
  trees1 = trees ts (emit x (length ts))

  abbrev pub trees2 : List Form
  trees2 = trees trees1 (emit y next)

  pub length1 : length trees1 ≡ next
  length1 = omega (arith, trees-length (emit x (length ts)) ts, emit-length x (length ts))

  pub length2 : length trees2 ≡ length ts + (size x + size y)
  length2 = omega (arith, length1, trees-length (emit y next) trees1, emit-length y next)

  pub fits2 : block_fits (length ts) y ≡ true → block_fits (length trees1) y ≡ true
  fits2 fy = fits_more (length ts) (length trees1) (omega (arith, length1)) y fy

  pub tree1 : block_fits (length ts) x ≡ true → Ends x → get_or trees2 (root x (length ts)) top ≡ fill ts x
  tree1 fx ix = trees_old (emit y next) trees1 _ (omega (arith, length1, root_below (length ts) x fx)) ∙ ix ts fx

  pub tree2 : block_fits (length ts) y ≡ true → Ends y → get_or trees2 (root y next) top ≡ fill ts y
  tree2 fy iy =
      subst (λ (d : ℕ). get_or (trees trees1 (emit y d)) (root y d) top ≡ fill trees1 y) length1 (iy trees1 (fits2 fy))
      ∙ fill_more (emit x (length ts)) ts y fy

pub emit-tree : (B : Block) → Ends B
unfolding emit root fill block_fits build
emit-tree (old i) ts f = trees_old [] ts i (below_out _ _ f)
emit-tree (end k p) ts f = last-tree ts _ (leaf k) (length ts) refl refl
emit-tree (on k p x) ts f =
    let b = length ts in
    let n : Node = record { kind = kind_no (unary k); param = p; left = root x b; right = 0 } in
    ap (λ us. get_or us (b + size x) top) (trees_append (emit x b) (n ∷ []) ts)
    ∙ last-tree (trees ts (emit x b)) n (unary k) (b + size x) (omega (arith, trees-length (emit x b) ts, emit-length x b)) refl
    ∙ ap (one k p) (emit-tree x ts (and_r (unary_fits k p) _ f))
emit-tree (join k x y) ts f =
    let b = length ts in
    let c = b + size x in
    let ts1 = trees ts (emit x b) in
    let n : Node = record { kind = kind_no (binary k); param = 0; left = root x b; right = root y c } in
    let fx = and_l (block_fits b x) _ f in
    let fy = and_r (block_fits b x) _ f in
    ap (λ us. get_or us (b + (size x + size y)) top) (trees_append (emit x b) (emit y c ++ (n ∷ [])) ts ∙ trees_append (emit y c) (n ∷ []) ts1)
    ∙ last-tree (trees ts1 (emit y c)) n (binary k) (b + (size x + size y)) (length2 x y ts) refl
    ∙ ap₂ (two k) (tree1 x y ts fx (emit-tree x)) (tree2 x y ts fy (emit-tree y))

-- the even rule at every node that a block makes
unfoldable pub even_block : List Form → Block → Bool
even_block ts (old i) = true
even_block ts (end k p) = true
even_block ts (on k p x) = even (one k p (fill ts x)) && even_block ts x
even_block ts (join k x y) = even_block ts x && even_block ts y

even_more : (xs : List Node) (ts : List Form) (B : Block) → block_fits (length ts) B ≡ true → even_block (trees ts xs) B ≡ even_block ts B
unfolding even_block block_fits
even_more xs ts (old i) f = refl
even_more xs ts (end k p) f = refl
even_more xs ts (on k p x) f =
    let g = and_r (unary_fits k p) _ f in
    ap₂ (λ φ b. even (one k p φ) && b) (fill_more xs ts x g) (even_more xs ts x g)
even_more xs ts (join k x y) f =
    ap₂ ◌&&◌ (even_more xs ts x (and_l _ _ f)) (even_more xs ts y (and_r (block_fits (length ts) x) _ f))

-- the even rule at each of the nodes with these trees
abbrev pub Evens : List Form → Type 0
Evens ts = (i : ℕ) → i < length ts → even (get_or ts i top) ≡ true

evens_one : (ts : List Form) (x : Node) (k : Kind) → x.kind ≡ kind_no k → Evens ts
    → even (build k x.param (get_or ts x.left top) (get_or ts x.right top)) ≡ true → Evens (trees ts (x ∷ []))
evens_one ts x k e h p i l =
    either
    (equal? i (length ts))
    (λ q. rw q (ap even (trees_new x [] ts ∙ kind_tree ts x k e) ∙ p))
    (λ q. let o : i < length ts = omega (arith, trees-length (x ∷ []) ts) in ap even (trees_old (x ∷ []) ts i o) ∙ h i o)

atom-even : (k : Leaf) (p : ℕ) → even (atom k p) ≡ true
unfolding even atom
atom-even k_true p = refl
atom-even k_here p = refl
atom-even k_label p = refl
atom-even k_name p = refl
atom-even k_var p = refl
atom-even k_slot p = refl

two-even : (k : Binary) (φ ψ : Form) → even (two k φ ψ) ≡ true
unfolding even two
two-even k_or φ ψ = refl
two-even k_and φ ψ = refl

pub emit-even : (B : Block) (ts : List Form) → block_fits (length ts) B ≡ true → Evens ts → even_block ts B ≡ true
    → Evens (trees ts (emit B (length ts)))
unfolding emit block_fits even_block trees build
emit-even (old i) ts f h q = h
emit-even (end k p) ts f h q = evens_one ts _ (leaf k) refl h (atom-even k p)
emit-even (on k p x) ts f h q =
    let b = length ts in
    let ts1 = trees ts (emit x b) in
    let n : Node = record { kind = kind_no (unary k); param = p; left = root x b; right = 0 } in
    let fx = and_r (unary_fits k p) _ f in
    subst Evens (sym (trees_append (emit x b) (n ∷ []) ts))
    (evens_one ts1 n (unary k) refl (emit-even x ts fx h (and_r (even (one k p (fill ts x))) _ q))
    (ap (λ φ. even (one k p φ)) (emit-tree x ts fx) ∙ and_l (even (one k p (fill ts x))) _ q))
emit-even (join k x y) ts f h q =
    let b = length ts in
    let c = b + size x in
    let ts1 = trees ts (emit x b) in
    let n : Node = record { kind = kind_no (binary k); param = 0; left = root x b; right = root y c } in
    let fx = and_l (block_fits b x) _ f in
    let fy = and_r (block_fits b x) _ f in
    let first : Evens ts1 = emit-even x ts fx h (and_l (even_block ts x) _ q) in
    let second : Evens (trees ts1 (emit y c)) =
    subst (λ (d : ℕ). Evens (trees ts1 (emit y d))) (length1 x y ts)
    (emit-even y ts1 (fits2 x y ts fy) first (even_more (emit x b) ts y fy ∙ and_r (even_block ts x) _ q)) in
    subst Evens (sym (trees_append (emit x b) (emit y c ++ (n ∷ [])) ts ∙ trees_append (emit y c) (n ∷ []) ts1))
    (evens_one (trees ts1 (emit y c)) n (binary k) refl second (two-even k _ _))
