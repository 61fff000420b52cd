-- The passes without own conditions.
use Rattle.std.proofs.Common.{arith}
use Rattle.std.proofs.lemmas.Grind.{common_steps}
use Rattle.rewriting.proofs.rewrite_sheet.Goals as goal

pub rewrite_from-requires-clause-in_bounds : goal.rewrite_from-requires-clause-in_bounds
rewrite_from-requires-clause-in_bounds c = grind (arith, common_steps)

pub rewrite_from-requires-clause-table_value : goal.rewrite_from-requires-clause-table_value
rewrite_from-requires-clause-table_value c = grind (arith, common_steps)

pub returns : goal.returns
returns c = c.rewrite_from.ensures
