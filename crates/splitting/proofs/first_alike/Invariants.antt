-- No slot below t is in the class of s with its row.
use Rattle.std.proofs.Common.{◌≡◌, false}
use Rattle.finite.specs.Tests.{any}
use Rattle.partition.specs.Partition.{by_row_of}
use Rattle.splitting.proofs.first_alike.Given as goal

abbrev pub invariant-loop-t : goal.invariant-loop-t
invariant-loop-t l = any l.t (by_row_of l.q l.rows l.s) ≡ false
