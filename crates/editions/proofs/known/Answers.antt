-- The two numbers.
use Rattle.std.proofs.Common.{refl}
use Rattle.editions.specs.Edition.{known}
use Rattle.finite.specs.Tests.{same}
use Rattle.editions.proofs.known.Goals as goal

pub returns : goal.returns
unfolding known same
returns c = refl
