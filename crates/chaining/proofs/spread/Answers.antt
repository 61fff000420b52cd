-- A round writes the slots that the round before has added, and looks for those that lead to them.
use Rattle.std.proofs.Common.{refl, ◌∙◌, arith, length-set}
use Rattle.chaining.proofs.Laws.Rounds.{spreading_start, spread_found, spread_rest, spread_more, spread_done}
use Rattle.chaining.proofs.spread.Goals as goal

pub loop-k-init : goal.loop-k-init
loop-k-init c = (refl, spreading_start)

pub returns-then-meets : goal.returns-then-meets
returns-then-meets c = spread_found c.loop-k.invariant.1 c.write.ensures (omega arith) c.meets.ensures c.if-meets.true

pub returns-then-is_empty : goal.returns-then-is_empty
returns-then-is_empty c = spread_rest c.loop-k.invariant.1 c.write.ensures (omega arith) c.meets.ensures c.fresh-front.ensures c.if-meets.false
    c.is_empty.ensures c.if-is_empty.true

pub loop-k-preserved : goal.loop-k-preserved
loop-k-preserved c = (
  length-set c.loop-k.fronts c.loop-k.k c.write.new.part ∙ c.loop-k.invariant.0,
  spread_more c.loop-k.invariant.1 c.write.ensures (omega arith) c.meets.ensures c.fresh-front.ensures c.if-meets.false c.bitor-found.ensures,
)

pub returns : goal.returns
returns c = spread_done c.loop-k.invariant.1 (omega arith) (omega arith)
