-- The nodes below i have their images and stages, and next is the start of the next block.
use Rattle.std.proofs.Common.{arith, refl}
use Rattle.condition.proofs.Laws.Fits.{first_fits}
use Rattle.condition.proofs.Laws.Limits.{kind_known}
use Rattle.emitting.proofs.Laws.Numbered.{numbering_none, numbering_more}
use Rattle.emitting.proofs.number.Goals as goal

pub loop-i-init : goal.loop-i-init
loop-i-init c = numbering_none (omega arith) (omega arith)

pub plan_node-stage-requires-clause-known : goal.plan_node-stage-requires-clause-known
plan_node-stage-requires-clause-known c =
    let f = first_fits c.args.table.now c.args.n c.requires.fits c.loop-i.i c.loop-i-test.true in omega (arith, c.kind.ensures, kind_known c.loop-i.i _ f)

pub loop-i-preserved : goal.loop-i-preserved
loop-i-preserved c =
    numbering_more c.loop-i.invariant (omega arith) c.kind.ensures c.param.ensures c.plan_node-stage.ensures refl
