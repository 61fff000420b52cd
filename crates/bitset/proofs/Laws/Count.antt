-- How many slots a set holds, byte by byte.
use Rattle.std.specs.Prelude.{◌≡◌, List, ℕ, ◌+◌, ◌*◌, ◌<◌, eqb, get_or}
use Rattle.std.specs.Int.Count.{ones}
use Rattle.std.proofs.Common.{eqb→eq}
use Rattle.finite.specs.Tests.{bit, count}
use Rattle.finite.proofs.Laws.Bits.{all-below}
use Rattle.finite.proofs.Laws.Below.{count_cong}
use Rattle.finite.proofs.Laws.Count.{count_add}
use Rattle.bitset.specs.Set.{has}
use Rattle.bitset.proofs.Laws.Bytes.{has_byte}

ones_bits : (v : ℕ) → v < 256 → ones v ≡ count 8 (bit v)
unfolding ones count bit
ones_bits v h = eqb→eq _ _ (all-below (λ z. eqb (ones z) (count 8 (bit z))) 256 tt v h)

pub count_byte : (S : List ℕ) (i : ℕ) → get_or S i 0 < 256 → count (i * 8 + 8) (has S) ≡ count (i * 8) (has S) + ones (get_or S i 0)
count_byte S i h =
    rw (count_add (i * 8) 8 (has S), ones_bits (get_or S i 0) h, count_cong 8 (λ k. has S (i * 8 + k)) (bit (get_or S i 0)) (has_byte S i))
