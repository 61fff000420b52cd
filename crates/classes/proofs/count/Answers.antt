-- The numbers of the slots that were looked at are in the set.
use Rattle.std.proofs.Common.{◌∙◌, arith}
use Rattle.classes.proofs.Laws.Different.{numbers_start, numbers_more, count-different}
use Rattle.classes.proofs.count.Goals as goal

pub loop-class-init : goal.loop-class-init
loop-class-init c = numbers_start c.args.classes.now _ c.empty-seen.ensures

pub loop-class-preserved : goal.loop-class-preserved
loop-class-preserved c = numbers_more c.args.classes.now c.loop-class.class-index c.loop-class.seen _ (rw c.from.ensures at c.insert.ensures) c.loop-class.invariant

pub returns : goal.returns
returns c = c.len.ensures ∙ count-different c.args.classes.now c.loop-class.class-index c.loop-class.seen (omega arith) c.loop-class.invariant
