-- The slots below s have their signatures, and the last row that was looked at has what was seen.
use Rattle.std.proofs.Common.{ℕ, ◌<◌}
use Rattle.bitset.specs.Set.{Is}
use Rattle.partition.specs.Rows.{row, sees}
use Rattle.signatures.proofs.of_rows.Given as goal

abbrev pub invariant-loop-s : goal.invariant-loop-s
invariant-loop-s l = ((k : ℕ) → k < l.s → Is (row l.signatures k) (sees (row l.rows k) l.members.numbers)) × Is l.seen (sees l.row l.members.numbers)
