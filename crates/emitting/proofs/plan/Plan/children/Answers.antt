-- Fields for children are low.
use Rattle.emitting.proofs.Laws.Emitted.{left_low, right_low}
use Rattle.emitting.proofs.plan.Plan.children.Goals as goal

pub returns-clause-low : goal.returns-clause-low
returns-clause-low c =
    let P = c.args.self.now in
    (left_low P.fits P.numbered c.args.c c.requires c.left.ensures.0, right_low P.fits P.numbered c.args.c c.requires c.right.ensures.0)
