-- The two tests of a name that an edit may move.
use Rattle.std.proofs.Common.{refl}
use Rattle.finite.specs.Tests.{same, below}
use Rattle.sheet.proofs.may_move.Goals as goal

pub returns : goal.returns
unfolding same below
returns c = refl
