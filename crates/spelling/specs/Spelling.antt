-- What a spelling spells, and which one the block of a node has.
use Rattle.std.specs.Prelude.{◌≡◌, Option, None, Some, IfSome, cond, if◌then◌else◌, ◌==◌, ℕ, ◌+◌, ◌%◌, ◌≤◌}
use Rattle.finite.specs.Tests.{same}
use Rattle.limits.specs.Limits.{links, every_way, dia_no, box_no}
use Rattle.semantics.specs.Form.{Way, along, against, every}
use Rattle.semantics.specs.Edit.{Edit, CN1, CN2, AP, DP, AT, RT, DT1, DT2, AS, DS}
use Rattle.semantics.specs.Table.{kind_of, way_of}
use Rattle.semantics.specs.Block.{Block, old, size, block}
use Rattle.spelling.specs.declared.Row.{Row}
use Rattle.spelling.specs.declared.Modal.{Modal}
use Rattle.spelling.specs.declared.Spelling.{Spelling}
use Rattle.spelling.specs.Rows.{copied, row_block}

-- the reverse of the way b
abbrev pub reverse_of : ℕ → ℕ
reverse_of b = (b + links) % 256

-- the block of a row for a node with parameter w, where t is the image of the node's child
unfoldable pub row_spelled : Spelling → (w t : ℕ) → Block
row_spelled s w t = row_block s.row w s.first s.second (reverse_of s.second) every_way (old t)

-- the block that is spelled for a node of kind k and parameter w, where t and u are the images of its children
unfoldable pub spelled : Option Spelling → (k w t u : ℕ) → Block
spelled None k w t u = copied (kind_of k) w (old t) (old u)
spelled (Some s) k w t u = row_spelled s w t

-- a row with its numbers
abbrev pub by_row : Row → ℕ → ℕ → Spelling
by_row r a b = record { row = r; first = a; second = b }

-- of a node of this kind: none but for a diamond and a box
abbrev pub modal_spelling : Modal → (kind : ℕ) → Option Spelling
modal_spelling m k = if k == dia_no then Some (by_row m.0 m.2 m.3) else (if k == box_no then Some (by_row m.1 m.2 m.3) else None)

-- the two numbers of an edit's rows, 0 where there is no second
abbrev pub first_of : Edit → ℕ
first_of (CN1 n1 n2) = n2
first_of (CN2 n1 n2 f) = n2
first_of (AP n q) = n
first_of (DP n q) = n
first_of (AT m n1 n2) = n1
first_of (RT f n1 n2) = n1
first_of (DT1 m n1 n2) = n1
first_of (DT2 f n) = n
first_of (AS n k) = k
first_of (DS n) = n

abbrev pub second_of : Edit → ℕ
second_of (CN1 n1 n2) = 0
second_of (CN2 n1 n2 f) = f
second_of (AP n q) = 0
second_of (DP n q) = 0
second_of (AT m n1 n2) = n2
second_of (RT f n1 n2) = n2
second_of (DT1 m n1 n2) = n2
second_of (DT2 f n) = 0
second_of (AS n k) = 0
second_of (DS n) = 0

-- s has them, for a node with way w. The rows of AT and DT1 serve their link and its reverse, which has the two exchanged
abbrev pub HasNumbers : Edit → Way → Spelling → Type 0
HasNumbers (AT m n1 n2) (against l) s = (s.first ≡ n2) × (s.second ≡ n1)
HasNumbers (DT1 m n1 n2) (against l) s = (s.first ≡ n2) × (s.second ≡ n1)
HasNumbers e w s = (s.first ≡ first_of e) × (s.second ≡ second_of e)

-- s spells the block of a node with this kind and parameter; its numbers are those of the edit, also where the row uses none
pub record Spells (e : Edit) (kind param : ℕ) (s : Option Spelling) : Type 0 where
  pub right : (t u : ℕ) → spelled s kind param t u ≡ block e (kind_of kind) param (old t) (old u)
  pub numbers : IfSome s (HasNumbers e (way_of param))

-- what is spelled has r nodes
pub record Sized (s : Option Spelling) (r : ℕ) : Type 0 where
  pub right : (k w t u : ℕ) → r ≡ size (spelled s k w t u)
  pub some : 1 ≤ r
  pub few : r ≤ 11

-- x on way m, y on its reverse, and z on any other way
unfoldable pub on_way : {A : Type 0} → Way → ℕ → A → A → A → A
on_way (along l) m x y z = cond (same l m) x z
on_way (against l) m x y z = cond (same l m) y z
on_way every m x y z = z
