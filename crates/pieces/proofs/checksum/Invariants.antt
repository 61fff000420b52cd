use Rattle.std.proofs.Common.{◌<◌}
use Rattle.pieces.proofs.checksum.Given as goal

-- the sum is below the prime
abbrev pub invariant-loop-x : goal.invariant-loop-x
invariant-loop-x l = l.h < 4294967291
