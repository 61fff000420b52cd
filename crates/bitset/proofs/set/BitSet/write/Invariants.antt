-- The words below k are written.
use Rattle.std.proofs.Common.{◌≡◌, ◌++◌, ◌*◌, take, drop}
use Rattle.bitset.specs.Words.{bytes_of}
use Rattle.bitset.proofs.set.BitSet.write.Given as goal

abbrev pub invariant-loop-k : goal.invariant-loop-k
invariant-loop-k g l = l.part ≡ bytes_of (take l.k l.self-inside.words) ++ drop (8 * l.k) l.initial.part
