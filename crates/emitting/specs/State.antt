-- How far rewriting through one edit has come: the images of a table's first nodes, and the nodes written for them.
use Rattle.std.specs.Prelude.{◌≡◌, List, [], ◌∷◌, ◌++◌, Bool, true, false, ◌⊎◌, Option, None, ℕ, zero, suc, ◌+◌, ◌*◌, ◌≤◌, ◌<◌, length, get_or}
use Rattle.semantics.specs.Table.{Node, kind_of}
use Rattle.semantics.specs.Edit.{Edit, CN1, CN2, AP, DP, AT, RT, DT1, DT2, AS, DS}
use Rattle.semantics.specs.Block.{Block, old, block, root, emit}
use Rattle.condition.specs.Bytes.{node_at, bytes_of}
use Rattle.limits.specs.Limits.{table_nodes, here_no, label_no, name_no, var_no, dia_no, mu_no}
use Rattle.blocks.specs.Write.{puts}
use Rattle.spelling.specs.declared.Spelling.{Spelling}
use Rattle.spelling.specs.Spelling.{Spells, Sized}
use Rattle.emitting.specs.declared.Stage.{Stage}
use Rattle.emitting.specs.declared.Stage.TheVariants.{ToCopy, ToRewrite, Emitted}

pub record State : Type 0 where
  pub images : List ℕ
  pub out : List Node

unfoldable pub block_in : Edit → List ℕ → Node → Block
block_in e images x =
    block e (kind_of x.kind) x.param (old (get_or images x.left 0)) (old (get_or images x.right 0))

unfoldable pub step : Edit → State → Node → State
step e st x = record {
  images = st.images ++ (root (block_in e st.images x) (length st.out) ∷ []);
  out = st.out ++ emit (block_in e st.images x) (length st.out);
}

-- after the first n nodes of a table
unfoldable pub state_at : Edit → List ℕ → ℕ → State
state_at e s zero = record { images = []; out = [] }
state_at e s (suc n) = step e (state_at e s n) (node_at s n)

-- the image of node i
unfoldable pub image_of : Edit → List ℕ → ℕ → ℕ
image_of e s i = get_or (state_at e s (suc i)).images i 0

-- the number of the first node of node i's block
unfoldable pub start_of : Edit → List ℕ → ℕ → ℕ
start_of e s i = length (state_at e s i).out

-- blocks have at most 11 nodes each, so that those of 2,048 nodes have at most
abbrev pub most_made : ℕ
most_made = 22528

-- the block of node i
abbrev pub block_at : Edit → List ℕ → ℕ → Block
block_at e s i = block_in e (state_at e s i).images (node_at s i)

-- a buffer gets the block of node i in its place
abbrev pub BlockWritten : List ℕ → Edit → ℕ → (o o' : List ℕ) → Type 0
BlockWritten s e i o o' = o' ≡ puts o (start_of e s i) 0 (emit (block_at e s i) (start_of e s i))

-- the nodes below n have numbers: their images stand in a buffer
pub record Numbered (s : List ℕ) (e : Edit) (images : List ℕ) (n : ℕ) : Type 0 where
  pub size : length images ≡ table_nodes
  pub most : n ≤ table_nodes
  pub imaged : (j : ℕ) → j < n → get_or images j 0 ≡ image_of e s j
  pub few : start_of e s n ≤ most_made

-- the number of the first node of node i's block, by the images
unfoldable pub start_in : List ℕ → ℕ → ℕ
start_in images zero = 0
start_in images (suc i) = get_or images i 0 + 1

-- an edit changes nodes of the kinds from `first_kind` to below `end_kind` at most
abbrev pub first_kind : Edit → ℕ
first_kind (CN1 n1 n2) = name_no
first_kind (CN2 n1 n2 f) = name_no
first_kind (AP n p) = label_no
first_kind (DP n p) = label_no
first_kind (AT m n1 n2) = dia_no
first_kind (RT f n1 n2) = dia_no
first_kind (DT1 m n1 n2) = dia_no
first_kind (DT2 f n) = dia_no
first_kind (AS n k) = here_no
first_kind (DS n) = here_no

abbrev pub end_kind : Edit → ℕ
end_kind (CN1 n1 n2) = var_no
end_kind (CN2 n1 n2 f) = var_no
end_kind (AP n p) = name_no
end_kind (DP n p) = name_no
end_kind (AT m n1 n2) = mu_no
end_kind (RT f n1 n2) = mu_no
end_kind (DT1 m n1 n2) = mu_no
end_kind (DT2 f n) = mu_no
end_kind (AS n k) = var_no
end_kind (DS n) = mu_no

-- a node that is not emitted waits
abbrev pub waits : Stage → Bool
waits ToCopy = true
waits ToRewrite = true
waits Emitted = false

-- node j waits
abbrev pub waits_at : List Stage → ℕ → Bool
waits_at stages j = waits (get_or stages j ToCopy)

-- a node of kind k and parameter p waits in this stage, and its block has r nodes
pub record Planned (e : Edit) (k p : ℕ) (stage : Stage) (r : ℕ) : Type 0 where
  pub spelling : Option Spelling
  pub spells : Spells e k p spelling
  pub sized : Sized spelling r
  pub copy : stage ≡ ToCopy → Spells e k p None
  pub waiting : waits stage ≡ true

-- the nodes below n that are to be copied have a copy for their block
pub record Rowed (s : List ℕ) (e : Edit) (stages : List Stage) (n : ℕ) : Type 0 where
  pub size : length stages ≡ table_nodes
  pub copies : (j : ℕ) → j < n → get_or stages j ToCopy ≡ ToCopy → Spells e (node_at s j).kind (node_at s j).param None

-- none of the nodes below n is emitted
abbrev pub NoneEmitted : List Stage → ℕ → Type 0
NoneEmitted stages n = (j : ℕ) → j < n → waits_at stages j ≡ true

-- the first pass has come to node n, whose block begins with number `next`
pub record Numbering (s : List ℕ) (e : Edit) (images : List ℕ) (stages : List Stage) (n next : ℕ) : Type 0 where
  pub numbered : Numbered s e images n
  pub rowed : Rowed s e stages n
  pub none : NoneEmitted stages n
  pub here : next ≡ start_of e s n
  pub small : next ≤ 11 * n

-- what emitting the nodes below n needs beside their images: stages, and a buffer with room for the blocks
pub record Emittable (s : List ℕ) (e : Edit) (stages : List Stage) (out : List ℕ) (n : ℕ) : Type 0 where
  pub rowed : Rowed s e stages n
  pub room : 6 * start_of e s n ≤ length out

-- the block of node j stands in a buffer
unfoldable pub Stands : List ℕ → Edit → List ℕ → ℕ → Type 0
Stands s e out j = (p : ℕ) → 6 * start_of e s j ≤ p → p < 6 * start_of e s (suc j) → get_or out p 0 ≡ get_or (bytes_of (state_at e s (suc j)).out) p 0

-- some nodes more are emitted: their blocks stand, and no block that stood is spoiled
pub record Emitting (s : List ℕ) (e : Edit) (stages : List Stage) (out : List ℕ) (stages' : List Stage) (out' : List ℕ) : Type 0 where
  pub size : length stages' ≡ length stages
  pub room : length out' ≡ length out
  pub stays : (j : ℕ) → waits_at stages j ≡ false → waits_at stages' j ≡ false
  pub same : (j : ℕ) → waits_at stages' j ≡ true → get_or stages' j ToCopy ≡ get_or stages j ToCopy
  pub stand : (j : ℕ) → waits_at stages j ≡ true → waits_at stages' j ≡ false → Stands s e out' j
  pub keeps : (j : ℕ) → Stands s e out j → Stands s e out' j

-- the nodes in both fields of node j are emitted. A field that its kind does not use is 0
pub record ChildrenEmitted (s : List ℕ) (stages : List Stage) (j : ℕ) : Type 0 where
  pub left : waits_at stages (node_at s j).left ≡ false
  pub right : waits_at stages (node_at s j).right ≡ false

-- each node that is emitted now (') and was not before has its children emitted too
pub record Deep (s : List ℕ) (stages stages' : List Stage) : Type 0 where
  pub down : (j : ℕ) → waits_at stages j ≡ true → waits_at stages' j ≡ false → ChildrenEmitted s stages' j

-- only c is emitted now and was not before, and its children are emitted too, or one of them waits, which b tells
pub record OneEmitted (s : List ℕ) (stages stages' : List Stage) (c : ℕ) (b : Bool) : Type 0 where
  pub only : (j : ℕ) → waits_at stages j ≡ true → waits_at stages' j ≡ false → (j ≡ c) × (ChildrenEmitted s stages' j ⊎ (b ≡ true))
  pub below : b ≡ true → 0 < c
