-- In the rows of the slots that are left the dense ones are the other way.
use Rattle.std.proofs.Common.{arith}
use Rattle.neighbours.proofs.Laws.Steps.{mended_start, mended_more, mended_done}
use Rattle.bitset.specs.Numbers.{numbers_left}
use Rattle.neighbours.proofs.reverse.Goals as goal

pub loop-t-init : goal.loop-t-init
loop-t-init c = mended_start c.args.rows.now c.put_sources-dense.result c.args.reached _ _ c.into_iter-t-iterator.ensures.into_iter_gives c.put_sources-dense.ensures

pub loop-t-preserved : goal.loop-t-preserved
loop-t-preserved c = mended_more c.args.rows.now c.put_sources-dense.result _ (numbers_left c.next.new.self.set c.next.new.self.begun c.next.new.self.word) c.in-Some.t c.loop-t.back c.index-back-t.result c.sub.result c.sub-in-loop-t.result c.bitor.result c.in-Some.ensures.steps (omega (arith, c.in-Some.ensures.steps.0)) c.sub.ensures c.sub-in-loop-t.ensures c.bitor.ensures c.loop-t.invariant

pub returns : goal.returns
returns c = mended_done c.args.rows.now c.put_sources-dense.result _ _ c.in-None.ensures.steps c.loop-t.invariant
