-- The table is copied, and zeros follow it; or zeros alone.
use Rattle.std.proofs.Common.{arith}
use Rattle.rewriting.proofs.Laws.Passes.{finished_long, finished_short}
use Rattle.rewriting.proofs.finish.Goals as goal

pub zero-requires : goal.zero-requires
zero-requires c = tt

pub returns-then-made-gt-TABLE_NODES : goal.returns-then-made-gt-TABLE_NODES
returns-then-made-gt-TABLE_NODES c = finished_long c.if-made-gt-TABLE_NODES.true c.zero.ensures

pub copy-requires : goal.copy-requires
copy-requires c = omega (arith, c.if-made-gt-TABLE_NODES.false, c.requires)

pub clear_from-requires : goal.clear_from-requires
clear_from-requires c = omega (arith, c.if-made-gt-TABLE_NODES.false, c.copy.auto, c.requires)

pub returns : goal.returns
returns c = finished_short _ c.if-made-gt-TABLE_NODES.false c.requires.1 (omega (arith, c.copy.auto, c.requires.0)) c.copy.ensures c.clear_from.ensures
