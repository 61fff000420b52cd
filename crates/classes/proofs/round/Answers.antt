-- q is p split by the ways below w, for every site and every round that p can be the partition of.
use Rattle.std.proofs.Common.{◌≡◌, arith}
use Rattle.limits.specs.Limits.{every_way}
use Rattle.partition.proofs.Laws.Rounds.{upto-none, upto_more, upto_all}
use Rattle.partition.specs.Partition.{Refines}
use Rattle.classes.proofs.round.Goals as goal

pub loop-w-init : goal.loop-w-init
loop-w-init c = (c.requires.partition, λ M _ k n. upto-none M k n)

pub split-q-requires-clause-partition : goal.split-q-requires-clause-partition
split-q-requires-clause-partition c = c.loop-w.invariant.0

pub split-q-requires-clause-used : goal.split-q-requires-clause-used
split-q-requires-clause-used c = c.requires.used c.loop-w.w (omega arith)

pub loop-w-preserved : goal.loop-w-preserved
loop-w-preserved c = (c.split-q.ensures.lowest, λ M b k n. upto_more M k c.loop-w.w c.args.ways.now c.args.p c.loop-w.q _ b (omega arith) n (c.loop-w.invariant.1 M b k n) (rw c.new-members.ensures at c.split-q.ensures))

pub returns : goal.returns
unfolding Refines
returns c = λ M b k n. let e : c.loop-w.w ≡ every_way = omega arith in upto_all M k (rw e at (c.loop-w.invariant.1 M b k n))
