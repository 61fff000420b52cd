-- The three tests of item 7.
use Rattle.std.proofs.Common.{arith}
use Rattle.std.proofs.lemmas.Grind.{common_steps}
use Rattle.condition.specs.Refusal.{size_fits}
use Rattle.finite.specs.Tests.{same, below}
use Rattle.condition.proofs.size_fits.Goals as goal

pub returns : goal.returns
unfolding size_fits same below
returns c = grind (arith, common_steps)
