-- The slots below t are in the classes of their numbers.
use Rattle.std.proofs.Common.{◌&&◌, get_or}
use Rattle.finite.specs.Tests.{same, any}
use Rattle.partition.specs.Gains.{Gains}
use Rattle.signatures.proofs.put_classes.Given as goal

abbrev pub invariant-loop-t : goal.invariant-loop-t
invariant-loop-t l = Gains (λ x y. any l.t (λ k. same x (get_or l.numbers k 0) && same y k)) l.fn.classes l.classes
