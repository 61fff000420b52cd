-- A table with a condition and a closing "and" behind it is a table, and says both.
use Rattle.std.specs.Prelude.{◌≡◌, List, [], true, ℕ, suc, ◌+◌, ◌<◌, length, refl}
use Rattle.std.proofs.Common.{◌∙◌, append-nil, arith}
use Rattle.std.proofs.Math.Option.{none, some}
use Rattle.finite.proofs.Laws.Bools.{and_in}
use Rattle.finite.proofs.Laws.Below.{below_in}
use Rattle.semantics.specs.Form.{and}
use Rattle.semantics.specs.Table.{Node, two, trees, tree_at, form_of, nodes_fit, even_table}
use Rattle.semantics.specs.Block.{Block, size, root}
use Rattle.semantics.proofs.Laws.Emit.{block_fits, fill, even_block}
use Rattle.semantics.proofs.Laws.Append.{append_length, append_fits, append_even, append_form}
use Rattle.through.specs.Through.{joined, closing, behind}

-- no condition
pub behind-none : (xs : List Node) → behind xs none ≡ xs
unfolding behind closing
behind-none xs = append-nil xs

module _ (xs : List Node) (nonempty : 0 < length xs) (B : Block) (fits : (n : ℕ) → block_fits n B ≡ true) where
  -- the condition and the closing "and"
  abbrev C : Block
  C = joined (length xs) B

  -- the block can be written behind the table's nodes
  closing_fits : block_fits (length xs) C ≡ true
  unfolding block_fits
  closing_fits = and_in (below_in _ _ (omega arith)) (fits _)

  closing-size : size C ≡ size B + 1
  unfolding size
  closing-size = omega arith

  pub behind-length : length (behind xs (some B)) ≡ length xs + (size B + 1)
  unfolding behind closing
  behind-length = omega (arith, append_length xs C closing_fits, closing-size)

  pub behind_fits : nodes_fit 0 xs ≡ true → nodes_fit 0 (behind xs (some B)) ≡ true
  unfolding behind closing
  behind_fits = append_fits xs C closing_fits

  pub behind-even : even_table xs ≡ true → even_block (trees [] xs) B ≡ true → even_table (behind xs (some B)) ≡ true
  unfolding behind closing even_block
  behind-even = append_even xs C closing_fits

  -- the block's tree
  closing-tree : fill (trees [] xs) C ≡ and (form_of xs) (fill (trees [] xs) B)
  unfolding form_of tree_at fill two
  closing-tree = refl

  -- the closing "and" is its last node
  closing-root : suc (root C (length xs)) ≡ length xs + size C
  unfolding root size
  closing-root = omega arith

  pub behind_form : form_of (behind xs (some B)) ≡ and (form_of xs) (fill (trees [] xs) B)
  unfolding behind closing
  behind_form = append_form xs C closing_fits closing-root ∙ closing-tree
