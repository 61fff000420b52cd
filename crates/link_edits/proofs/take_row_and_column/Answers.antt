-- The column, then the row.
use Rattle.std.proofs.Common.{arith}
use Rattle.bitset.specs.Set.{set_slots}
use Rattle.limits.specs.Limits.{slots}
use Rattle.site.specs.Ways.{link_number}
use Rattle.site_changes.proofs.Laws.Loops.{crossed}
use Rattle.link_edits.proofs.take_row_and_column.Goals as goal

pub returns : goal.returns
unfolding slots
returns c = crossed c.args.site.now c.args.s (link_number c.args.link) set_slots (omega arith) c.take_column.ensures c.take_row.ensures
