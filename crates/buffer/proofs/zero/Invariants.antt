-- `buffer::zero` meets its contract: the first k bytes are 0.
use Rattle.std.proofs.Common.{length, drop, replicate, ◌-◌, ◌≤◌, ◌++◌, ◌≡◌}
use Rattle.buffer.proofs.zero.Given as goal

abbrev pub invariant-loop-k : goal.invariant-loop-k
invariant-loop-k l = (l.k ≤ length l.initial.buf) × (length l.buf ≡ length l.initial.buf) × (l.buf ≡ replicate l.k 0 ++ drop l.k l.initial.buf)

abbrev pub decreases-loop-k : goal.decreases-loop-k
decreases-loop-k l = length l.initial.buf - l.k
