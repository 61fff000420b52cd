-- A table with a block behind it is a table, and its condition is the block's.
use Rattle.std.specs.Prelude.{◌≡◌, true, ℕ, suc, ◌+◌, ◌-◌, List, [], ◌++◌, length, get_or}
use Rattle.std.proofs.Common.{sym, ◌∙◌, arith, length-append, ap₂, subst}
use Rattle.semantics.specs.Form.{top}
use Rattle.semantics.specs.Table.{Node, trees, tree_at, form_of, nodes_fit, even_table}
use Rattle.semantics.specs.Block.{Block, size, root, emit}
use Rattle.semantics.proofs.Laws.TreeAt.{trees_append, table_length}
use Rattle.semantics.proofs.Laws.Emit.{fits_append, emit-length, block_fits, emit_fits, fill, emit-tree, even_block, Evens, emit-even}
use Rattle.semantics.proofs.Laws.Rewrite.{evens_in, evens_out}

module _ (xs : List Node) (B : Block) (fits : block_fits (length xs) B ≡ true) where
  abbrev ys : List Node
  ys = xs ++ emit B (length xs)

  all-trees : trees [] ys ≡ trees (trees [] xs) (emit B (length xs))
  all-trees = trees_append xs (emit B (length xs)) []

  trees_fit : block_fits (length (trees [] xs)) B ≡ true
  trees_fit = subst (λ (n : ℕ). block_fits n B ≡ true) (sym (table_length xs)) fits

  pub append_length : length ys ≡ length xs + size B
  append_length = simp length-append (omega (arith, emit-length B (length xs)))

  pub append_fits : nodes_fit 0 xs ≡ true → nodes_fit 0 ys ≡ true
  append_fits f =
      fits_append 0 xs (emit B (length xs)) f
      (subst (λ (n : ℕ). nodes_fit n (emit B (length xs)) ≡ true) (omega arith) (emit_fits B (length xs) fits))

  pub append_even : even_table xs ≡ true → even_block (trees [] xs) B ≡ true → even_table ys ≡ true
  append_even e b =
      evens_out ys
      (subst Evens (sym all-trees)
      (subst (λ (n : ℕ). Evens (trees (trees [] xs) (emit B n))) (table_length xs) (emit-even B (trees [] xs) trees_fit (evens_in xs e) b)))

  -- where the block's last node is its root
  pub append_form : suc (root B (length xs)) ≡ length xs + size B → form_of ys ≡ fill (trees [] xs) B
  unfolding form_of tree_at
  append_form ends =
      let end : length ys - 1 ≡ root B (length xs) = omega (arith, append_length) in
      ap₂ (λ us (i : ℕ). get_or us i top) all-trees end
      ∙ subst (λ (n : ℕ). get_or (trees (trees [] xs) (emit B n)) (root B n) top ≡ fill (trees [] xs) B)
      (table_length xs) (emit-tree B (trees [] xs) trees_fit)
