-- A word of eight bytes, byte by byte.
use Rattle.std.specs.Prelude.{◌≡◌, ◌↔◌, ℕ, ◌-◌, ◌^◌}
use Rattle.std.specs.Int.Bits.{bit_and, bit_or}
use Rattle.words.specs.Word.{bytes, pairwise}

pub record Eight (w v : ℕ) : Type 0 where
  pub union : bytes 8 (bit_or w v) ≡ pairwise bit_or (bytes 8 w) (bytes 8 v)
  pub meet : bytes 8 (bit_and w v) ≡ pairwise bit_and (bytes 8 w) (bytes 8 v)
  pub complement : bytes 8 (2 ^ 64 - 1 - w) ≡ pairwise (λ x y. 255 - x) (bytes 8 w) (bytes 8 v)
  pub equal : (w ≡ v) ↔ (bytes 8 w ≡ bytes 8 v)
