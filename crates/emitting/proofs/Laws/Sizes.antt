-- A block has at least one node.
use Rattle.std.specs.Prelude.{ℕ, ◌≤◌}
use Rattle.std.proofs.Common.{arith}
use Rattle.finite.specs.Tests.{same}
use Rattle.finite.proofs.Laws.Bools.{either, look}
use Rattle.semantics.specs.Edit.{Edit, CN1, CN2, AP, DP, AT, RT, DT1, DT2, AS, DS}
use Rattle.semantics.specs.Table.{Leaf, k_true, k_here, k_label, k_name, k_var, k_slot, k_not, k_dia, k_box, k_mu, k_nu, Kind, leaf, unary, binary, way_of}
use Rattle.semantics.specs.Block.{Change, keep, added, only_from, only_to, cut, cut_from, cut_to, cut_off, change, Block, size, block_dia, block_box, block_leaf, block}

leaf-some : (e : Edit) (k : Leaf) (p : ℕ) → 1 ≤ size (block_leaf e k p)
unfolding block_leaf size
leaf-some e k_true p = omega arith
leaf-some (CN1 n1 n2) k_here p = omega arith
leaf-some (CN2 n1 n2 f) k_here p = omega arith
leaf-some (AP n q) k_here p = omega arith
leaf-some (DP n q) k_here p = omega arith
leaf-some (AT m n1 n2) k_here p = omega arith
leaf-some (RT f n1 n2) k_here p = omega arith
leaf-some (DT1 m n1 n2) k_here p = omega arith
leaf-some (DT2 f n) k_here p = omega arith
leaf-some (AS n k) k_here p = omega arith
leaf-some (DS n) k_here p = omega arith
leaf-some (CN1 n1 n2) k_label p = omega arith
leaf-some (CN2 n1 n2 f) k_label p = omega arith
leaf-some (AP n q) k_label p = either (look (same p q)) (λ e. rw (e, size) (omega arith)) (λ e. rw (e, size) (omega arith))
leaf-some (DP n q) k_label p = either (look (same p q)) (λ e. rw (e, size) (omega arith)) (λ e. rw (e, size) (omega arith))
leaf-some (AT m n1 n2) k_label p = omega arith
leaf-some (RT f n1 n2) k_label p = omega arith
leaf-some (DT1 m n1 n2) k_label p = omega arith
leaf-some (DT2 f n) k_label p = omega arith
leaf-some (AS n k) k_label p = omega arith
leaf-some (DS n) k_label p = omega arith
leaf-some (CN1 n1 n2) k_name p = either (look (same p n1)) (λ e. rw (e, size) (omega arith)) (λ e. rw (e, size) (omega arith))
leaf-some (CN2 n1 n2 f) k_name p = either (look (same p n1)) (λ e. rw (e, size) (omega arith)) (λ e. rw (e, size) (omega arith))
leaf-some (AP n q) k_name p = omega arith
leaf-some (DP n q) k_name p = omega arith
leaf-some (AT m n1 n2) k_name p = omega arith
leaf-some (RT f n1 n2) k_name p = omega arith
leaf-some (DT1 m n1 n2) k_name p = omega arith
leaf-some (DT2 f n) k_name p = omega arith
leaf-some (AS n k) k_name p = either (look (same p n)) (λ e. rw (e, size) (omega arith)) (λ e. rw (e, size) (omega arith))
leaf-some (DS n) k_name p = either (look (same p 0)) (λ e. rw (e, size) (omega arith)) (λ e. rw (e, size) (omega arith))
leaf-some e k_var p = omega arith
leaf-some e k_slot p = omega arith

-- the blocks of a diamond and of a box
ways_some : (c : Change) (w : ℕ) (T : Block) → (1 ≤ size (block_dia c w T)) × (1 ≤ size (block_box c w T))
unfolding block_dia block_box size
ways_some keep w T = (omega arith, omega arith)
ways_some (added a b) w T = (omega arith, omega arith)
ways_some (only_from a b) w T = (omega arith, omega arith)
ways_some (only_to a b) w T = (omega arith, omega arith)
ways_some (cut a b) w T = (omega arith, omega arith)
ways_some (cut_from n) w T = (omega arith, omega arith)
ways_some (cut_to n) w T = (omega arith, omega arith)
ways_some (cut_off n) w T = (omega arith, omega arith)

-- a node makes at least one
pub block-some : (e : Edit) (k : Kind) (p : ℕ) (T U : Block) → 1 ≤ size (block e k p T U)
unfolding block size
block-some e (leaf k) p T U = leaf-some e k p
block-some e (unary k_not) p T U = omega arith
block-some e (unary k_dia) p T U = (ways_some (change e (way_of p)) p T).0
block-some e (unary k_box) p T U = (ways_some (change e (way_of p)) p T).1
block-some e (unary k_mu) p T U = omega arith
block-some e (unary k_nu) p T U = omega arith
block-some e (binary k) p T U = omega arith
