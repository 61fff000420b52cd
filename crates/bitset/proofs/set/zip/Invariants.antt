use Rattle.std.proofs.Common.{◌≡◌, ℕ, ◌<◌, length, slice_index}
use Rattle.bitset.proofs.set.zip.Given as goal

abbrev pub invariant-loop-k : goal.invariant-loop-k
invariant-loop-k g l = (length l.words ≡ g.row.W) × ((j : ℕ) → j < l.k → g.F.Fn.post l.f (slice_index l.a j, (slice_index l.b j, tt)) (slice_index l.words j))
