-- A round writes layer j + 1.
use Rattle.std.proofs.Common.{◌+◌, ◌∙◌, arith, length-set}
use Rattle.chaining.proofs.Laws.Prune.{prune_start, prune_more, prune_done}
use Rattle.chaining.proofs.prune.Goals as goal

pub loop-j-init : goal.loop-j-init
loop-j-init c = (omega arith, length-set c.args.layers.now 0 c.write.new.part, prune_start c.args.layers.now c.write.ensures (omega arith))

pub loop-j-preserved : goal.loop-j-preserved
loop-j-preserved c = (
  omega arith,
  length-set c.loop-j.layers (c.loop-j.j + 1) c.write-in-loop-j.new.part ∙ c.loop-j.invariant.1,
  prune_more c.loop-j.j c.loop-j.invariant.2 (omega arith) (omega arith) c.read-front.ensures.bytes c.among-next.ensures c.write-in-loop-j.ensures,
)

pub returns : goal.returns
returns c = rw c.from-last.ensures at (prune_done c.loop-j.invariant.2 (omega arith) (omega arith))
