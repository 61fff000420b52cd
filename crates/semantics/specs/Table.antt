-- Conditions as tables of nodes, which are acyclic graphs, of any length; and the tree of each node: docs/SPEC.md, "The condition", and items
-- 8, 9 and 10 of "Reasons".
use Rattle.std.specs.Prelude.{◌≡◌, List, [], ◌∷◌, ◌++◌, Bool, true, not, ◌&&◌, cond, ℕ, suc, ◌+◌, ◌-◌, ◌<◌, length, get_or}
use Rattle.finite.specs.Tests.{same, below, all}
use Rattle.limits.specs.Limits.{slots, labels, names, links, variables, every_way, true_no, here_no, label_no, name_no, var_no, not_no, or_no, and_no, dia_no, box_no, mu_no, nu_no, slot_no, kinds}
use Rattle.semantics.specs.Form.{Way, along, against, every, Form, top, here, label, name, var, neg, or, and, dia, box, mu, nu, slot, even, closed}

-- the kinds of node: with no child, one (left) and two
pub data Leaf : Type 0 where
  k_true k_here k_label k_name k_var k_slot : Leaf

pub data Unary : Type 0 where
  k_not k_dia k_box k_mu k_nu : Unary

pub data Binary : Type 0 where
  k_or k_and : Binary

pub data Kind : Type 0 where
  leaf : Leaf → Kind
  unary : Unary → Kind
  binary : Binary → Kind

-- the kinds' numbers
unfoldable pub kind_no : Kind → ℕ
kind_no (leaf k_true) = true_no
kind_no (leaf k_here) = here_no
kind_no (leaf k_label) = label_no
kind_no (leaf k_name) = name_no
kind_no (leaf k_var) = var_no
kind_no (unary k_not) = not_no
kind_no (binary k_or) = or_no
kind_no (binary k_and) = and_no
kind_no (unary k_dia) = dia_no
kind_no (unary k_box) = box_no
kind_no (unary k_mu) = mu_no
kind_no (unary k_nu) = nu_no
kind_no (leaf k_slot) = slot_no

-- the kind with a number, in their order; a number past the last is refused by item 8 and read as the last here
unfoldable pub kind_of : ℕ → Kind
kind_of k =
    get_or
    (leaf k_true ∷ leaf k_here ∷ leaf k_label ∷ leaf k_name ∷ leaf k_var ∷ unary k_not ∷ binary k_or ∷ binary k_and ∷ unary k_dia ∷ unary k_box ∷ unary k_mu ∷ unary k_nu ∷ [])
    k
    (leaf k_slot)

-- the ways' numbers: the links, their reverses in the same order, everywhere
unfoldable pub way_no : Way → ℕ
way_no (along m) = m
way_no (against m) = m + links
way_no every = every_way

unfoldable pub way_of : ℕ → Way
way_of p = cond (below p links) (along p) (cond (below p every_way) (against (p - links)) every)

pub record Node : Type 0 where
  pub kind : ℕ
  pub param : ℕ
  pub left : ℕ
  pub right : ℕ

-- a node: kind, parameter, left, right
abbrev pub node : ℕ → ℕ → ℕ → ℕ → Node
node k p l r = record { kind = k; param = p; left = l; right = r }

-- the tree of a node, from its kind, its parameter and the trees of its children
unfoldable pub atom : Leaf → ℕ → Form
atom k_true p = top
atom k_here p = here
atom k_label p = label p
atom k_name p = name p
atom k_var p = var p
atom k_slot p = slot p

unfoldable pub one : Unary → ℕ → Form → Form
one k_not p φ = neg φ
one k_dia p φ = dia (way_of p) φ
one k_box p φ = box (way_of p) φ
one k_mu p φ = mu p φ
one k_nu p φ = nu p φ

unfoldable pub two : Binary → Form → Form → Form
two k_or φ ψ = or φ ψ
two k_and φ ψ = and φ ψ

unfoldable pub build : Kind → ℕ → Form → Form → Form
build (leaf k) p φ ψ = atom k p
build (unary k) p φ ψ = one k p φ
build (binary k) p φ ψ = two k φ ψ

-- the tree of a node, from the trees ts of the nodes before it
unfoldable pub tree : List Form → Node → Form
tree ts x = build (kind_of x.kind) x.param (get_or ts x.left top) (get_or ts x.right top)

-- the trees of nodes, after those of the nodes before them. Sharing ends here: a shared node stands in the tree once for each path
unfoldable pub trees : List Form → List Node → List Form
trees ts [] = ts
trees ts (x ∷ xs) = trees (ts ++ (tree ts x ∷ [])) xs

-- the tree of node i of a table
unfoldable pub tree_at : List Node → ℕ → Form
tree_at xs i = get_or (trees [] xs) i top

-- the condition of a table: the tree of its last node
unfoldable pub form_of : List Node → Form
form_of xs = tree_at xs (length xs - 1)

-- item 8 is not met by a node: a known kind, fields in range, children lower than the node's number i, unused fields 0
unfoldable pub leaf_fits : Leaf → ℕ → Bool
leaf_fits k_true p = same p 0
leaf_fits k_here p = same p 0
leaf_fits k_label p = below p labels
leaf_fits k_name p = below p names
leaf_fits k_var p = below p variables
leaf_fits k_slot p = below p slots

unfoldable pub unary_fits : Unary → ℕ → Bool
unary_fits k_not p = same p 0
unary_fits k_dia p = below p (suc every_way)
unary_fits k_box p = below p (suc every_way)
unary_fits k_mu p = below p variables
unary_fits k_nu p = below p variables

unfoldable pub kind_fits : ℕ → Node → Kind → Bool
kind_fits i x (leaf k) = leaf_fits k x.param && (same x.left 0 && same x.right 0)
kind_fits i x (unary k) = unary_fits k x.param && (below x.left i && same x.right 0)
kind_fits i x (binary k) = same x.param 0 && (below x.left i && below x.right i)

unfoldable pub node_fits : ℕ → Node → Bool
node_fits i x = below x.kind kinds && kind_fits i x (kind_of x.kind)

-- item 8 is met by no node of a table, whose first node has the number i
unfoldable pub nodes_fit : ℕ → List Node → Bool
nodes_fit i [] = true
nodes_fit i (x ∷ xs) = node_fits i x && nodes_fit (suc i) xs

-- item 9 is not met: each mu and nu of the table, reached or not, keeps the even rule
unfoldable pub even_table : List Node → Bool
even_table xs = all (length xs) (λ i. even (tree_at xs i))

-- no node is a slot number
unfoldable pub slot_free : List Node → Bool
slot_free [] = true
slot_free (x ∷ xs) = not (same x.kind (kind_no (leaf k_slot))) && slot_free xs

-- a closed condition without slot numbers, of any length: at least one node, meeting neither item 8 nor item 9
pub record ClosedTable (xs : List Node) : Type 0 where
  pub some : 0 < length xs
  pub fits : nodes_fit 0 xs ≡ true
  pub even_rule : even_table xs ≡ true
  pub is_closed : closed (form_of xs) ≡ true
  pub no_slot_number : slot_free xs ≡ true
