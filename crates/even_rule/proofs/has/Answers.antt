-- A bit of a mask, by shifting.
use Rattle.std.proofs.Common.{refl}
use Rattle.finite.specs.Tests.{bit}
use Rattle.even_rule.proofs.has.Goals as goal

pub returns : goal.returns
unfolding bit
returns c = refl
