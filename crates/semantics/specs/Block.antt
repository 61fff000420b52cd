-- Rewriting a table through an edit: each node becomes a block of nodes in postfix order (docs/SPEC.md, "Rewriting"). The table that comes out
-- is the weakest precondition: it says before the edit what the old one says after it (proofs/Laws/Rewrite).
use Rattle.std.specs.Prelude.{List, [], ◌∷◌, ◌++◌, cond, ℕ, suc, ◌+◌, length, get_or}
use Rattle.finite.specs.Tests.{same}
use Rattle.limits.specs.Limits.{links, every_way}
use Rattle.semantics.specs.Form.{Way, along, against, every}
use Rattle.semantics.specs.Edit.{Edit, CN1, CN2, AP, DP, AT, RT, DT1, DT2, AS, DS}
use Rattle.semantics.specs.Table.{Leaf, k_true, k_here, k_label, k_name, k_var, k_slot, Unary, k_not, k_dia, k_box, k_mu, k_nu, Binary, k_or, k_and, Kind, leaf, unary, binary, kind_no, kind_of, way_of, Node, node}

-- what an edit does to the neighbours by a way: nothing; a step from @a to @b is there; it is there, and no other leaves @a, or no other
-- reaches @b; it is not there; no step leaves @n, or reaches it, or either
pub data Change : Type 0 where
  keep : Change
  added : (a b : ℕ) → Change
  only_from : (a b : ℕ) → Change
  only_to : (a b : ℕ) → Change
  cut : (a b : ℕ) → Change
  cut_from : (n : ℕ) → Change
  cut_to : (n : ℕ) → Change
  cut_off : (n : ℕ) → Change

unfoldable pub change : Edit → Way → Change
change (CN1 n1 n2) w = keep
change (CN2 n1 n2 f) w = keep
change (AP n p) w = keep
change (DP n p) w = keep
change (AT m n1 n2) (along l) = cond (same l m) (added n1 n2) keep
change (AT m n1 n2) (against l) = cond (same l m) (added n2 n1) keep
change (AT m n1 n2) every = keep
change (RT f n1 n2) (along l) = cond (same l f) (only_from n1 n2) keep
change (RT f n1 n2) (against l) = cond (same l f) (only_to n2 n1) keep
change (RT f n1 n2) every = keep
change (DT1 m n1 n2) (along l) = cond (same l m) (cut n1 n2) keep
change (DT1 m n1 n2) (against l) = cond (same l m) (cut n2 n1) keep
change (DT1 m n1 n2) every = keep
change (DT2 f n) (along l) = cond (same l f) (cut_from n) keep
change (DT2 f n) (against l) = cond (same l f) (cut_to n) keep
change (DT2 f n) every = keep
change (AS n k) w = keep
change (DS n) (along l) = cut_off n
change (DS n) (against l) = cut_off n
change (DS n) every = keep

-- nodes to be written, as a tree: `old i` is a node that stands already, at number i, and makes none
pub data Block : Type 0 where
  old : ℕ → Block
  end : Leaf → ℕ → Block
  on : Unary → ℕ → Block → Block
  join : Binary → Block → Block → Block

-- how many nodes a block makes
unfoldable pub size : Block → ℕ
size (old i) = 0
size (end k p) = 1
size (on k p x) = suc (size x)
size (join k x y) = suc (size x + size y)

-- the number of a block's image, where the block is written from number b on
unfoldable pub root : Block → ℕ → ℕ
root (old i) b = i
root (end k p) b = b
root (on k p x) b = b + size x
root (join k x y) b = b + (size x + size y)

-- a block's nodes: left operand first, then right, then the node itself
unfoldable pub emit : Block → ℕ → List Node
emit (old i) b = []
emit (end k p) b = node (kind_no (leaf k)) p 0 0 ∷ []
emit (on k p x) b = emit x b ++ (node (kind_no (unary k)) p (root x b) 0 ∷ [])
emit (join k x y) b = emit x b ++ (emit y (b + size x) ++ (node (kind_no (binary k)) 0 (root x b) (root y (b + size x)) ∷ []))

-- short names for the nodes of blocks
abbrev pub nm : ℕ → Block
nm n = end k_name n

abbrev pub no! : Block → Block
no! x = on k_not 0 x

abbrev pub ◌&◌ : Block → Block → Block
x & y = join k_and x y

abbrev pub ◌or◌ : Block → Block → Block
x or y = join k_or x y

infixl 40 ◌&◌
infixl 35 ◌or◌
infixr 45 ⟨◌⟩◌ ⟦◌⟧◌
abbrev pub ⟨◌⟩◌ : ℕ → Block → Block
⟨ w ⟩ x = on k_dia w x

abbrev pub ⟦◌⟧◌ : ℕ → Block → Block
⟦ w ⟧ x = on k_box w x

-- the block of a diamond, T being the image of its child. Way `every_way` is E, and way f + links is f-. In postfix:
--   added: T <w> a b T & <E> & |     cut: a ! T <w> & b ! T & <w> |     cut_from: n ! T <w> &     cut_to: n ! T & <w>
--   cut_off: n ! n ! T & <w> &     only_from: a ! T <w> & a b T & <E> & |     only_to: b ! T & <w> a b T & <E> & |
unfoldable pub block_dia : Change → ℕ → Block → Block
block_dia keep w T = ⟨ w ⟩ T
block_dia (added a b) w T = (⟨ w ⟩ T) or (nm a & (⟨ every_way ⟩ (nm b & T)))
block_dia (only_from a b) w T = (no! (nm a) & (⟨ w ⟩ T)) or (nm a & (⟨ every_way ⟩ (nm b & T)))
block_dia (only_to a b) w T = (⟨ w ⟩ (no! (nm b) & T)) or (nm a & (⟨ every_way ⟩ (nm b & T)))
block_dia (cut a b) w T = (no! (nm a) & (⟨ w ⟩ T)) or (⟨ w ⟩ (no! (nm b) & T))
block_dia (cut_from n) w T = no! (nm n) & (⟨ w ⟩ T)
block_dia (cut_to n) w T = ⟨ w ⟩ (no! (nm n) & T)
block_dia (cut_off n) w T = no! (nm n) & (⟨ w ⟩ (no! (nm n) & T))

-- the block of a box. added: T [w] a ! b ! T | [E] | &     cut: a T [w] | b T | [w] &     cut_from: n T [w] |     cut_to: n T | [w]
--   cut_off: n n T | [w] |     only_from: a T [w] | a ! b ! T | [E] | &     only_to: b T | [w] a ! b ! T | [E] | &
unfoldable pub block_box : Change → ℕ → Block → Block
block_box keep w T = ⟦ w ⟧ T
block_box (added a b) w T = (⟦ w ⟧ T) & (no! (nm a) or (⟦ every_way ⟧ (no! (nm b) or T)))
block_box (only_from a b) w T = (nm a or (⟦ w ⟧ T)) & (no! (nm a) or (⟦ every_way ⟧ (no! (nm b) or T)))
block_box (only_to a b) w T = (⟦ w ⟧ (nm b or T)) & (no! (nm a) or (⟦ every_way ⟧ (no! (nm b) or T)))
block_box (cut a b) w T = (nm a or (⟦ w ⟧ T)) & (⟦ w ⟧ (nm b or T))
block_box (cut_from n) w T = nm n or (⟦ w ⟧ T)
block_box (cut_to n) w T = ⟦ w ⟧ (nm n or T)
block_box (cut_off n) w T = nm n or (⟦ w ⟧ (nm n or T))

-- the block of a node with no child. CN1: name n1 is n2. CN2: name n1 is n2 <f-> nil n2 t <f> & <E> ! & |. AP: label p is
-- p n nil ! & |. DP: it is p n ! &. AS: name n is k, here is h k |. DS: here is h n ! &, a label p n ! &, a name y other than 0
-- y n ! & nil n y & <E> & |
unfoldable pub block_leaf : Edit → Leaf → ℕ → Block
block_leaf e k_true p = end k_true p
block_leaf (CN1 n1 n2) k_here p = end k_here p
block_leaf (CN2 n1 n2 f) k_here p = end k_here p
block_leaf (AP n q) k_here p = end k_here p
block_leaf (DP n q) k_here p = end k_here p
block_leaf (AT m n1 n2) k_here p = end k_here p
block_leaf (RT f n1 n2) k_here p = end k_here p
block_leaf (DT1 m n1 n2) k_here p = end k_here p
block_leaf (DT2 f n) k_here p = end k_here p
block_leaf (AS n k) k_here p = end k_here p or end k_slot k
block_leaf (DS n) k_here p = end k_here p & no! (nm n)
block_leaf (CN1 n1 n2) k_label p = end k_label p
block_leaf (CN2 n1 n2 f) k_label p = end k_label p
block_leaf (AP n q) k_label p = cond (same p q) (end k_label p or (nm n & no! (nm 0))) (end k_label p)
block_leaf (DP n q) k_label p = cond (same p q) (end k_label p & no! (nm n)) (end k_label p)
block_leaf (AT m n1 n2) k_label p = end k_label p
block_leaf (RT f n1 n2) k_label p = end k_label p
block_leaf (DT1 m n1 n2) k_label p = end k_label p
block_leaf (DT2 f n) k_label p = end k_label p
block_leaf (AS n k) k_label p = end k_label p
block_leaf (DS n) k_label p = end k_label p & no! (nm n)
block_leaf (CN1 n1 n2) k_name y = cond (same y n1) (nm n2) (nm y)
block_leaf (CN2 n1 n2 f) k_name y =
    cond (same y n1) ((⟨ f + links ⟩ nm n2) or (nm 0 & no! (⟨ every_way ⟩ (nm n2 & (⟨ f ⟩ end k_true 0))))) (nm y)
block_leaf (AP n q) k_name y = nm y
block_leaf (DP n q) k_name y = nm y
block_leaf (AT m n1 n2) k_name y = nm y
block_leaf (RT f n1 n2) k_name y = nm y
block_leaf (DT1 m n1 n2) k_name y = nm y
block_leaf (DT2 f n) k_name y = nm y
block_leaf (AS n k) k_name y = cond (same y n) (end k_slot k) (nm y)
block_leaf (DS n) k_name y = cond (same y 0) (nm y) ((nm y & no! (nm n)) or (nm 0 & (⟨ every_way ⟩ (nm n & nm y))))
block_leaf e k_var p = end k_var p
block_leaf e k_slot p = end k_slot p

-- the block of a node, from the images T and U of its children. A node that the edit does not concern is copied
unfoldable pub block : Edit → Kind → ℕ → Block → Block → Block
block e (leaf k) p T U = block_leaf e k p
block e (unary k_not) p T U = no! T
block e (unary k_dia) p T U = block_dia (change e (way_of p)) p T
block e (unary k_box) p T U = block_box (change e (way_of p)) p T
block e (unary k_mu) p T U = on k_mu p T
block e (unary k_nu) p T U = on k_nu p T
block e (binary k) p T U = join k T U

-- each old node in order becomes its block: the blocks of xs, written behind the nodes out, where the nodes before xs have these images
unfoldable pub rewrite : Edit → List ℕ → List Node → List Node → List Node
rewrite e images out [] = out
rewrite e images out (x ∷ xs) =
    let B = block e (kind_of x.kind) x.param (old (get_or images x.left 0)) (old (get_or images x.right 0)) in
    rewrite e (images ++ (root B (length out) ∷ [])) (out ++ emit B (length out)) xs

-- what is made of a table for an edit
abbrev pub Pass : Type 0
Pass = Edit → List Node → List Node

unfoldable pub rewrite_table : Pass
rewrite_table e xs = rewrite e [] [] xs

-- through a sheet, the last edit first, with a pass for each edit
unfoldable pub passed : Pass → List Edit → List Node → List Node
passed pass [] xs = xs
passed pass (e ∷ es) xs = pass e (passed pass es xs)

-- rewriting through a sheet
abbrev pub rewrite_sheet : List Edit → List Node → List Node
rewrite_sheet es xs = passed rewrite_table es xs
