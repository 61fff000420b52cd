-- The passes over the one node true.
use Rattle.std.proofs.Common.{◌∙◌, ap, ℕ, arith, length}
use Rattle.limits.specs.Limits.{node_size}
use Rattle.rewriting.proofs.Laws.Passes.{true_table, true_fits, rewrote_as}
use lib.ListN.{length-replicate}
use Rattle.rewriting.proofs.through_sheet.Goals as goal

pub rewrite_from-requires-clause-in_bounds : goal.rewrite_from-requires-clause-in_bounds
rewrite_from-requires-clause-in_bounds c = let n = ap length c.one_true-start.ensures ∙ length-replicate {A = ℕ} node_size 0 in
    (omega (arith, n), omega (arith, n), c.requires.0)

pub rewrite_from-requires-clause-table_value : goal.rewrite_from-requires-clause-table_value
rewrite_from-requires-clause-table_value c = let n = ap length c.one_true-start.ensures ∙ length-replicate {A = ℕ} node_size 0 in
    (rw (true_table c.one_true-start.ensures) true_fits, c.requires.1)

pub returns : goal.returns
returns c = rewrote_as (true_table c.one_true-start.ensures) c.rewrite_from.ensures
