-- The nodes of an edit's own condition, by their numbers.
use Rattle.std.specs.Prelude.{List, [], ◌∷◌, ℕ, ◌+◌}
use Rattle.limits.specs.Limits.{every_way, name_no, not_no, and_no, dia_no}
use Rattle.semantics.specs.Table.{Node, node}

-- x y & <E> !, where x and y are leaves
abbrev pub nowhere_nodes : (at : ℕ) (x y : Node) → List Node
nowhere_nodes at x y = x ∷ y ∷ node and_no 0 at (at + 1) ∷ node dia_no every_way (at + 2) 0 ∷ node not_no 0 (at + 3) 0 ∷ []

-- n y <m> & <E>, where y is a leaf
abbrev pub reaches_nodes : (at n m : ℕ) → Node → List Node
reaches_nodes at n m y =
    node name_no n 0 0 ∷ y ∷ node dia_no m (at + 1) 0 ∷ node and_no 0 at (at + 2) ∷ node dia_no every_way (at + 3) 0 ∷ []
