-- A node of a table that fits has its parameter below its bound.
use Rattle.std.proofs.Common.{arith}
use Rattle.condition.specs.Bytes.{node_at}
use Rattle.condition.proofs.Laws.Fits.{node_fits_lem}
use Rattle.condition.proofs.Laws.Limits.{param_lower}
use Rattle.condition.proofs.number.Goals as goal

pub returns : goal.returns
returns c = let f = param_lower c.args.i (node_at c.args.table.now c.args.i) (node_fits_lem c.args.table.now c.requires.table_value c.args.i c.requires.i_in_bounds) in
    (omega arith, omega arith)
