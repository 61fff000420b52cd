-- The words below k are read.
use Rattle.std.proofs.Common.{◌≡◌, ℕ, ◌*◌, ◌<◌, length, drop, slice_index}
use Rattle.words.specs.Word.{word}
use Rattle.bitset.proofs.set.BitSet.read.Given as goal

abbrev pub invariant-loop-k : goal.invariant-loop-k
invariant-loop-k g l = (length l.words ≡ g.row.W) × ((j : ℕ) → j < l.k → slice_index l.words j ≡ word 8 (drop (8 * j) l.part))
