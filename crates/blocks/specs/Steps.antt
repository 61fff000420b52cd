-- The nodes of a row, step by step.
use Rattle.std.specs.Prelude.{◌≡◌, List, [], ◌∷◌, map, ℕ, ◌+◌, get_or}
use Rattle.limits.specs.Limits.{every_way}
use Rattle.semantics.specs.Table.{Node, node}
use Rattle.semantics.specs.Block.{emit}
use Rattle.spelling.specs.declared.Row.{Row}
use Rattle.spelling.specs.declared.Spelling.{Spelling}
use Rattle.spelling.specs.Spelling.{reverse_of, row_spelled}
use Rattle.blocks.specs.declared.steps.Number.{Number}
use Rattle.blocks.specs.declared.steps.Number.TheVariants.{Zero, Own, First, Second, ReverseOfSecond, Everywhere}
use Rattle.blocks.specs.declared.steps.Child.{Child}
use Rattle.blocks.specs.declared.steps.Child.TheVariants.{Nothing, At, Image}
use Rattle.blocks.specs.declared.steps.Step.{Step}

-- the numbers that steps refer to, for a node with parameter w
abbrev pub numbers_of : Spelling → ℕ → List ℕ
numbers_of s w = 0 ∷ w ∷ s.first ∷ s.second ∷ reverse_of s.second ∷ every_way ∷ []

-- the place of a number among them
abbrev pub place_of : Number → ℕ
place_of Zero = 0
place_of Own = 1
place_of First = 2
place_of Second = 3
place_of ReverseOfSecond = 4
place_of Everywhere = 5

-- the child of a step's node, where the block begins with number at, and t is the image of the old node's child
abbrev pub child_of : (at t : ℕ) → Child → ℕ
child_of at t Nothing = 0
child_of at t (At k) = at + k
child_of at t Image = t

-- the node of a step, where ns has the numbers
abbrev pub node_of : List ℕ → (at t : ℕ) → Step → Node
node_of ns at t s = node s.0 (get_or ns (place_of s.1) 0) (child_of at t s.2) (child_of at t s.3)

-- these steps make the nodes of the row's block, whatever the numbers
pub record StepsOf (row : Row) (steps : List Step) : Type 0 where
  pub right : (s : Spelling) (w at t : ℕ) → s.row ≡ row → map (node_of (numbers_of s w) at t) steps ≡ emit (row_spelled s w t) at
