-- No edit before k is at fault.
use Rattle.std.proofs.Common.{false, ◌≡◌}
use Rattle.finite.specs.Tests.{any}
use Rattle.sheet.specs.Refusal.{faulty}
use Rattle.sheet.proofs.check.Given as goal

abbrev pub invariant-loop-k : goal.invariant-loop-k
invariant-loop-k l = any l.k (faulty l.sheet) ≡ false
