-- No node below i meets item 8.
use Rattle.std.proofs.Common.{arith, not, sym, ◌∙◌, ap, length}
use Rattle.condition.proofs.Laws.Bytes.{length_table}
use Rattle.condition.specs.Bytes.{table_of}
use Rattle.condition.specs.Refusal.{first_unfit}
use Rattle.finite.proofs.Laws.First.{none_start, none_more, first_stop, first_is}
use Rattle.condition.proofs.first_unfit.Goals as goal

pub loop-i-init : goal.loop-i-init
loop-i-init c = none_start _

pub returns-then-not-node_fits : goal.returns-then-not-node_fits
unfolding first_unfit
returns-then-not-node_fits c =
    let size = length_table c.args.table.now in
    sym (first_is _ _ c.loop-i.i (omega arith) c.loop-i.invariant (ap not (sym c.node_fits.ensures) ∙ c.if-not-node_fits.true-raw))

pub loop-i-preserved : goal.loop-i-preserved
loop-i-preserved c = none_more _ c.loop-i.i c.loop-i.invariant (ap not (sym c.node_fits.ensures) ∙ c.if-not-node_fits.false-raw)

pub returns : goal.returns
unfolding first_unfit
returns c =
    let size = length_table c.args.table.now in
    let e = first_stop (length (table_of c.args.table.now)) _ c.loop-i.i c.loop-i.invariant (omega arith) (omega arith) in
    omega arith
