-- Loops that fill a buffer with zeros, or with the bytes of another.
use Rattle.std.specs.Prelude.{◌≡◌, List, ◌++◌, ℕ, suc, ◌+◌, ◌≤◌, ◌<◌, length, get_or, take, drop, set, replicate}
use Rattle.std.proofs.Common.{sym, ◌∙◌, ap, ap₂, append-nil, add-one, arith, drop_of_length-le, length-take-le, drop-cons, take-suc}
use Rattle.std.proofs.Math.Seq.{append_snoc, take-length}
use Rattle.std.proofs.lemmas.List.{set_at}

-- once the loop has passed the end, all bytes are 0
pub filled : (buf : List ℕ) (k : ℕ) → k ≤ length buf → length buf ≤ k → replicate k 0 ++ drop k buf ≡ replicate (length buf) 0
filled buf k h g =
    let e : k ≡ length buf = omega arith in
    ap (λ (z : List ℕ). replicate k 0 ++ z) (drop_of_length-le buf g) ∙ append-nil (replicate k 0) ∙ ap (λ (n : ℕ). replicate n 0) e

module _ (s d : List ℕ) where
  -- one more byte of s, where the first k have been copied over d
  pub copied_more : (k : ℕ) → k < length s → k < length d → set (take k s ++ drop k d) k (get_or s k 0) ≡ take (k + 1) s ++ drop (k + 1) d
  copied_more k h g =
      rw (add-one, drop-cons d k 0 g)
      (set_at (take k s) (get_or d k 0) (drop (suc k) d) (get_or s k 0) k (length-take-le k s (omega arith))
      ∙ sym (append_snoc (take k s) (get_or s k 0) (drop (suc k) d))
      ∙ ap (λ (l : List ℕ). l ++ drop (suc k) d) (sym (take-suc s k 0 h)))

  -- all bytes of s are copied over d, where d is no longer than s
  pub copied_whole : length d ≤ length s → take (length s) s ++ drop (length s) d ≡ s
  copied_whole h = ap₂ (λ (a b : List ℕ). a ++ b) (take-length s) (drop_of_length-le d h) ∙ append-nil s
