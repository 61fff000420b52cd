-- The first node of a table whose nodes fit has no child, so that its block is the same whatever the children's are.
use Rattle.std.specs.Prelude.{◌≡◌, refl, true, ℕ}
use Rattle.std.proofs.Common.{arith}
use Rattle.semantics.specs.Edit.{Edit}
use Rattle.semantics.specs.Table.{Kind, leaf, unary, binary, kind_of, Node, node_fits}
use Rattle.semantics.specs.Block.{Block, block}
use Rattle.semantics.proofs.Laws.TreeAt.{node_lower, Lower}

pub first_leaf : (x : Node) → node_fits 0 x ≡ true → (e : Edit) (p : ℕ) (T U T' U' : Block)
    → block e (kind_of x.kind) p T U ≡ block e (kind_of x.kind) p T' U'
unfolding Lower block
first_leaf x f e p T U T' U' = go (kind_of x.kind) (node_lower 0 x f)
  where
    go : (k : Kind) → Lower 0 x k → block e k p T U ≡ block e k p T' U'
    go (leaf k) g = refl
    go (unary k) g = absurd (omega (arith, g))
    go (binary k) g = absurd (omega (arith, g.0))
