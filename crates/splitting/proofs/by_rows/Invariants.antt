-- The slots below s have their new numbers.
use Rattle.std.proofs.Common.{◌≡◌, ℕ, ◌<◌, length, get_or}
use Rattle.bitset.specs.Set.{set_slots}
use Rattle.finite.specs.Tests.{first}
use Rattle.partition.specs.Partition.{by_row_of}
use Rattle.splitting.proofs.by_rows.Given as goal

abbrev pub invariant-loop-s : goal.invariant-loop-s
invariant-loop-s l = (length l.r ≡ set_slots) × ((k : ℕ) → k < l.s → get_or l.r k 0 ≡ first set_slots (by_row_of l.q l.rows k))
