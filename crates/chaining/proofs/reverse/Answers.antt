-- Along becomes against, and against along.
use Rattle.std.proofs.Common.{refl}
use Rattle.chains.specs.Reached.{reverse}
use Rattle.chaining.proofs.reverse.Goals as goal

pub returns-in-Along : goal.returns-in-Along
unfolding reverse
returns-in-Along c = rw c.in-Along.is refl

pub returns-in-Against : goal.returns-in-Against
unfolding reverse
returns-in-Against c = rw c.in-Against.is refl

pub returns-in-Everywhere : goal.returns-in-Everywhere
unfolding reverse
returns-in-Everywhere c = rw c.in-Everywhere.is refl
