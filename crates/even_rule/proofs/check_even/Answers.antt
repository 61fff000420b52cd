-- No node before i is uneven.
use Rattle.std.proofs.Common.{arith, length, sym, ◌∙◌}
use Rattle.condition.specs.Bytes.{table_of}
use Rattle.condition.specs.Refusal.{first_uneven, even_verdict}
use Rattle.condition.proofs.Laws.Bytes.{length_table}
use Rattle.finite.proofs.Laws.Below.{below_in, below-not}
use Rattle.finite.proofs.Laws.First.{none_start, none_more, first_stop, first_is}
use Rattle.even_rule.proofs.check_even.Goals as goal

pub loop-i-init : goal.loop-i-init
loop-i-init c = none_start _

pub returns-then-uneven : goal.returns-then-uneven
unfolding even_verdict first_uneven
returns-then-uneven c =
    let n = length (table_of c.args.table.now) in
    let size = length_table c.args.table.now in
    rw (first_is n _ c.loop-i.i (omega arith) c.loop-i.invariant (sym c.uneven.ensures ∙ c.if-uneven.true), below_in c.loop-i.i n (omega arith))

pub loop-i-preserved : goal.loop-i-preserved
loop-i-preserved c = none_more _ c.loop-i.i c.loop-i.invariant (sym c.uneven.ensures ∙ c.if-uneven.false)

pub returns : goal.returns
unfolding even_verdict first_uneven
returns c =
    let n = length (table_of c.args.table.now) in
    let size = length_table c.args.table.now in
    rw (first_stop n _ c.loop-i.i c.loop-i.invariant (omega arith) (omega arith), below-not c.loop-i.i n (omega arith))
