-- Parts of longer bytes as sets: a shared part, and a part that was lent as `&mut S[b..b + k]` and has come back as ys.
use Rattle.std.specs.Prelude.{◌≡◌, List, ◌++◌, ℕ, ◌+◌, ◌-◌, ◌*◌, ◌/◌, ◌%◌, ◌≤◌, ◌<◌, length, get_or, take, drop}
use Rattle.std.proofs.Common.{◌∙◌, subst, arith, get_or-take, get_or-drop, get_or-append-add, length-take-le, ap, ap₂}
use Rattle.std.proofs.Math.ListN.{get_or-append}
use Rattle.finite.specs.Tests.{bit}
use Rattle.bitset.specs.Set.{has}

-- the n bytes that start at byte b
pub has_part : (S : List ℕ) (b n s : ℕ) → s < n * 8 → has (take n (drop b S)) s ≡ has S (b * 8 + s)
unfolding has
has_part S b n s h =
    rw (get_or-take n (drop b S) (s / 8) 0 (omega arith), get_or-drop b S (s / 8) 0)
    (ap₂ (λ (x y : ℕ). bit (get_or S x 0) y) (omega arith) (omega arith))

-- the whole, with ys for the k bytes from b on
abbrev pub back : List ℕ → List ℕ → ℕ → ℕ → List ℕ
back S ys b k = take b S ++ (ys ++ drop k (drop b S))

module _ (S ys : List ℕ) (b k : ℕ) (fits : b + k ≤ length S) (l : length ys ≡ k) where
  head_length : length (take b S) ≡ b
  head_length = length-take-le b S (omega arith)

  pub back_below : (j : ℕ) → j < b → get_or (back S ys b k) j 0 ≡ get_or S j 0
  back_below j h = get_or-append (take b S) _ 0 j (rw head_length h) ∙ get_or-take b S j 0 h

  back_at : (j : ℕ) → get_or (back S ys b k) (b + j) 0 ≡ get_or (ys ++ drop k (drop b S)) j 0
  back_at j =
      subst (λ (n : ℕ). get_or (back S ys b k) (n + j) 0 ≡ get_or (ys ++ drop k (drop b S)) j 0) head_length
      (get_or-append-add (take b S) (ys ++ drop k (drop b S)) j 0)

  pub back-within : (j : ℕ) → j < k → get_or (back S ys b k) (b + j) 0 ≡ get_or ys j 0
  back-within j h = back_at j ∙ get_or-append ys _ 0 j (rw l h)

  pub back_above : (j : ℕ) → b + k ≤ j → get_or (back S ys b k) j 0 ≡ get_or S j 0
  back_above j h =
      let i : ℕ = j - (b + k) in
      let e : j ≡ b + (k + i) = omega arith in
      rw e
      (back_at (k + i)
      ∙ subst (λ (n : ℕ). get_or (ys ++ drop k (drop b S)) (n + i) 0 ≡ get_or (drop k (drop b S)) i 0) l (get_or-append-add ys (drop k (drop b S)) i 0)
      ∙ get_or-drop k (drop b S) i 0
      ∙ get_or-drop b S (k + i) 0)

  -- slot s of the part, in the whole
  pub back-has : (s : ℕ) → s < k * 8 → has (back S ys b k) (b * 8 + s) ≡ has ys s
  unfolding has
  back-has s h =
      ap₂ (λ (x y : ℕ). bit (get_or (back S ys b k) x 0) y) (omega arith) (omega arith)
      ∙ ap (λ (x : ℕ). bit x (s % 8)) (back-within (s / 8) (omega arith))
