-- A node of a table that fits has its left child below it.
use Rattle.std.proofs.Common.{arith}
use Rattle.condition.specs.Bytes.{node_at}
use Rattle.condition.proofs.Laws.Fits.{node_fits_lem}
use Rattle.condition.proofs.Laws.Limits.{left_lower}
use Rattle.condition.proofs.left_child.Goals as goal

pub returns : goal.returns
returns c = let x = node_at c.args.table.now c.args.i in
    let f = left_lower c.args.i x (node_fits_lem c.args.table.now c.requires.table_value c.args.i c.requires.i_in_bounds) (omega arith) (omega arith) in
    (omega arith, omega arith)
