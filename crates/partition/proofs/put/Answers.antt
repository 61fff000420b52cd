-- The rows of the slots that are left are still without c.
use Rattle.std.proofs.Common.{arith}
use Rattle.partition.proofs.Laws.Gains.{lacks_start, lacks_more, lacks_done}
use Rattle.bitset.specs.Numbers.{numbers_left}
use Rattle.partition.proofs.put.Goals as goal

pub loop-s-init : goal.loop-s-init
loop-s-init c = lacks_start c.args.c c.args.slots _ _ c.into_iter-s-iterator.ensures.into_iter_gives

pub loop-s-preserved : goal.loop-s-preserved
loop-s-preserved c = lacks_more c.args.c c.loop-s.rows _ (numbers_left c.next.new.self.set c.next.new.self.begun c.next.new.self.word) c.in-Some.s _ _ c.in-Some.ensures.steps (omega (arith, c.in-Some.ensures.steps.0)) c.insert.ensures c.loop-s.invariant

pub returns : goal.returns
returns c = lacks_done c.args.c _ c.in-None.ensures.steps c.loop-s.invariant
