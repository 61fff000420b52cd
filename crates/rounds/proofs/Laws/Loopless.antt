-- A table without a mu or nu: listing it makes no round, and what it is rewritten to has none either. No legal sheet and no fitting table
-- is asked for.
use Rattle.std.specs.Prelude.{◌≡◌, Bool, true, false, ◌&&◌, cond, length, get_or, refl, List, [], ◌∷◌, ◌++◌, ℕ, zero, suc, ◌+◌, ◌-◌}
use Rattle.std.proofs.Common.{◌∙◌, ap}
use Rattle.finite.specs.Tests.{same}
use Rattle.finite.proofs.Laws.Bools.{clash, and_in, and_l, and_r}
use Rattle.semantics.specs.Form.{Form, top}
use Rattle.semantics.specs.Holds.{Env, Model}
use Rattle.semantics.specs.Edit.{Edit, CN1, CN2, AP, DP, AT, RT, DT1, DT2, AS, DS}
use Rattle.semantics.specs.Table.{Leaf, k_true, k_here, k_label, k_name, k_var, k_slot, k_not, k_dia, k_box, k_mu, k_nu, k_or, k_and, Kind, leaf, unary, binary, kind_no, kind_of, way_of, Node, node, atom, one, two, build, tree, trees, tree_at, form_of}
use Rattle.semantics.specs.Block.{Change, keep, added, only_from, only_to, cut, cut_from, cut_to, cut_off, change, Block, old, end, on, join, size, root, emit, block_dia, block_box, block_leaf, block, rewrite, rewrite_table, Pass, passed, rewrite_sheet}
use Rattle.semantics.proofs.Laws.Emit.{kind_kind}
use Rattle.rounds.specs.Makes.{Makes}

-- a kind that is no loop
unfoldable pub no_loop : Kind → Bool
no_loop (leaf k) = true
no_loop (unary k_not) = true
no_loop (unary k_dia) = true
no_loop (unary k_box) = true
no_loop (unary k_mu) = false
no_loop (unary k_nu) = false
no_loop (binary k) = true

-- no node is a loop, reached or not
unfoldable pub loopless : List Node → Bool
loopless [] = true
loopless (x ∷ xs) = no_loop (kind_of x.kind) && loopless xs

-- ---- listing

module _ (M : Model) (ρ : Env) where
  -- listing these trees makes no round
  Still : List Form → Type 0
  Still [] = Unit {0}
  Still (φ ∷ φs) = Makes M ρ φ 0 × Still φs

  still_at : (ts : List Form) → Still ts → (i : ℕ) → Makes M ρ (get_or ts i top) 0
  unfolding Still Makes
  still_at [] s i = refl
  still_at (φ ∷ φs) s zero = s.0
  still_at (φ ∷ φs) s (suc i) = still_at φs s.1 i

  still_more : (ts : List Form) (φ : Form) → Still ts → Makes M ρ φ 0 → Still (ts ++ (φ ∷ []))
  unfolding Still
  still_more [] φ s m = (m, tt)
  still_more (ψ ∷ ψs) φ s m = (s.0, still_more ψs φ s.1 m)

  build_still : (k : Kind) (p : ℕ) (φ ψ : Form) → no_loop k ≡ true → Makes M ρ φ 0 → Makes M ρ ψ 0 → Makes M ρ (build k p φ ψ) 0
  unfolding build atom one two no_loop Makes
  build_still (leaf k_true) p φ ψ q m n = refl
  build_still (leaf k_here) p φ ψ q m n = refl
  build_still (leaf k_label) p φ ψ q m n = refl
  build_still (leaf k_name) p φ ψ q m n = refl
  build_still (leaf k_var) p φ ψ q m n = refl
  build_still (leaf k_slot) p φ ψ q m n = refl
  build_still (unary k_not) p φ ψ q m n = m
  build_still (unary k_dia) p φ ψ q m n = m
  build_still (unary k_box) p φ ψ q m n = m
  build_still (unary k_mu) p φ ψ q m n = clash q refl
  build_still (unary k_nu) p φ ψ q m n = clash q refl
  build_still (binary k_or) p φ ψ q m n = (0, 0, m, n, refl)
  build_still (binary k_and) p φ ψ q m n = (0, 0, m, n, refl)

  trees_still : (xs : List Node) → loopless xs ≡ true → (ts : List Form) → Still ts → Still (trees ts xs)
  unfolding loopless trees tree
  trees_still [] q ts s = s
  trees_still (x ∷ xs) q ts s =
      trees_still xs (and_r (no_loop (kind_of x.kind)) _ q) _
      (still_more ts _ s (build_still (kind_of x.kind) x.param _ _ (and_l _ _ q) (still_at ts s x.left) (still_at ts s x.right)))

-- listing a table without a loop makes no round
pub loopless-makes : (xs : List Node) → loopless xs ≡ true → (M : Model) (ρ : Env) → Makes M ρ (form_of xs) 0
unfolding form_of tree_at Still
loopless-makes xs q M ρ = still_at M ρ (trees [] xs) (trees_still M ρ xs q [] tt) (length xs - 1)

-- ---- rewriting

pub loopless_append : (xs ys : List Node) → loopless xs ≡ true → loopless ys ≡ true → loopless (xs ++ ys) ≡ true
unfolding loopless
loopless_append [] ys p q = q
loopless_append (x ∷ xs) ys p q = and_in (and_l (no_loop (kind_of x.kind)) _ p) (loopless_append xs ys (and_r (no_loop (kind_of x.kind)) _ p) q)

loopless-one : (k : Kind) (p l r : ℕ) → no_loop k ≡ true → loopless (node (kind_no k) p l r ∷ []) ≡ true
unfolding loopless
loopless-one k p l r q = and_in (ap no_loop (kind_kind k) ∙ q) refl

-- a block makes no loop
unfoldable pub loopless_block : Block → Bool
loopless_block (old i) = true
loopless_block (end k p) = true
loopless_block (on k p x) = no_loop (unary k) && loopless_block x
loopless_block (join k x y) = loopless_block x && loopless_block y

pub emit-loopless : (B : Block) (b : ℕ) → loopless_block B ≡ true → loopless (emit B b) ≡ true
unfolding loopless_block emit loopless no_loop
emit-loopless (old i) b q = refl
emit-loopless (end k p) b q = loopless-one (leaf k) p 0 0 refl
emit-loopless (on k p x) b q =
    loopless_append (emit x b) _ (emit-loopless x b (and_r (no_loop (unary k)) _ q)) (loopless-one (unary k) p (root x b) 0 (and_l _ _ q))
emit-loopless (join k x y) b q =
    let c = b + size x in
    loopless_append (emit x b) _ (emit-loopless x b (and_l _ _ q))
    (loopless_append (emit y c) _ (emit-loopless y c (and_r (loopless_block x) _ q)) (loopless-one (binary k) 0 (root x b) (root y c) refl))

-- a node that is no loop becomes a block that makes none
cond-loopless : (b : Bool) (x y : Block) → loopless_block x ≡ true → loopless_block y ≡ true → loopless_block (cond b x y) ≡ true
cond-loopless true x y p q = p
cond-loopless false x y p q = q

leaf-loopless : (e : Edit) (k : Leaf) (p : ℕ) → loopless_block (block_leaf e k p) ≡ true
unfolding block_leaf loopless_block no_loop
leaf-loopless e k_true p = refl
leaf-loopless (CN1 n1 n2) k_here p = refl
leaf-loopless (CN2 n1 n2 f) k_here p = refl
leaf-loopless (AP n q) k_here p = refl
leaf-loopless (DP n q) k_here p = refl
leaf-loopless (AT m n1 n2) k_here p = refl
leaf-loopless (RT f n1 n2) k_here p = refl
leaf-loopless (DT1 m n1 n2) k_here p = refl
leaf-loopless (DT2 f n) k_here p = refl
leaf-loopless (AS n k) k_here p = refl
leaf-loopless (DS n) k_here p = refl
leaf-loopless (CN1 n1 n2) k_label p = refl
leaf-loopless (CN2 n1 n2 f) k_label p = refl
leaf-loopless (AP n q) k_label p = cond-loopless (same p q) _ _ refl refl
leaf-loopless (DP n q) k_label p = cond-loopless (same p q) _ _ refl refl
leaf-loopless (AT m n1 n2) k_label p = refl
leaf-loopless (RT f n1 n2) k_label p = refl
leaf-loopless (DT1 m n1 n2) k_label p = refl
leaf-loopless (DT2 f n) k_label p = refl
leaf-loopless (AS n k) k_label p = refl
leaf-loopless (DS n) k_label p = refl
leaf-loopless (CN1 n1 n2) k_name y = cond-loopless (same y n1) _ _ refl refl
leaf-loopless (CN2 n1 n2 f) k_name y = cond-loopless (same y n1) _ _ refl refl
leaf-loopless (AP n q) k_name y = refl
leaf-loopless (DP n q) k_name y = refl
leaf-loopless (AT m n1 n2) k_name y = refl
leaf-loopless (RT f n1 n2) k_name y = refl
leaf-loopless (DT1 m n1 n2) k_name y = refl
leaf-loopless (DT2 f n) k_name y = refl
leaf-loopless (AS n k) k_name y = cond-loopless (same y n) _ _ refl refl
leaf-loopless (DS n) k_name y = cond-loopless (same y 0) _ _ refl refl
leaf-loopless e k_var p = refl
leaf-loopless e k_slot p = refl

-- what a diamond becomes, and a box
change-loopless : (c : Change) (w i : ℕ) → (loopless_block (block_dia c w (old i)) ≡ true) × (loopless_block (block_box c w (old i)) ≡ true)
unfolding block_dia block_box loopless_block no_loop
change-loopless keep w i = (refl, refl)
change-loopless (added a b) w i = (refl, refl)
change-loopless (only_from a b) w i = (refl, refl)
change-loopless (only_to a b) w i = (refl, refl)
change-loopless (cut a b) w i = (refl, refl)
change-loopless (cut_from n) w i = (refl, refl)
change-loopless (cut_to n) w i = (refl, refl)
change-loopless (cut_off n) w i = (refl, refl)

block-loopless : (e : Edit) (k : Kind) (p i j : ℕ) → no_loop k ≡ true → loopless_block (block e k p (old i) (old j)) ≡ true
unfolding block loopless_block no_loop
block-loopless e (leaf k) p i j q = leaf-loopless e k p
block-loopless e (unary k_not) p i j q = refl
block-loopless e (unary k_dia) p i j q = (change-loopless (change e (way_of p)) p i).0
block-loopless e (unary k_box) p i j q = (change-loopless (change e (way_of p)) p i).1
block-loopless e (unary k_mu) p i j q = q
block-loopless e (unary k_nu) p i j q = q
block-loopless e (binary k) p i j q = refl

blocks_loopless : (e : Edit) (xs : List Node) (images : List ℕ) (out : List Node) → loopless xs ≡ true → loopless out ≡ true
    → loopless (rewrite e images out xs) ≡ true
unfolding rewrite loopless
blocks_loopless e [] images out p q = q
blocks_loopless e (x ∷ xs) images out p q =
    blocks_loopless e xs _ _ (and_r (no_loop (kind_of x.kind)) _ p)
    (loopless_append out _ q (emit-loopless _ (length out) (block-loopless e (kind_of x.kind) x.param _ _ (and_l _ _ p))))

pub rewrite-loopless : (e : Edit) (xs : List Node) → loopless xs ≡ true → loopless (rewrite_table e xs) ≡ true
unfolding rewrite_table loopless
rewrite-loopless e xs p = blocks_loopless e xs [] [] p refl

-- through a sheet, by passes that add no loop
pub passed-loopless : (pass : Pass) → ((e : Edit) (xs : List Node) → loopless xs ≡ true → loopless (pass e xs) ≡ true)
    → (es : List Edit) (xs : List Node) → loopless xs ≡ true → loopless (passed pass es xs) ≡ true
unfolding passed
passed-loopless pass adds [] xs p = p
passed-loopless pass adds (e ∷ es) xs p = adds e _ (passed-loopless pass adds es xs p)

pub sheet-loopless : (es : List Edit) (xs : List Node) → loopless xs ≡ true → loopless (rewrite_sheet es xs) ≡ true
sheet-loopless = passed-loopless rewrite_table rewrite-loopless
