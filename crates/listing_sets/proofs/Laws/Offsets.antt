-- A set in a buffer: the part that is lent, and the buffer once the part has come back.
use Rattle.std.specs.Prelude.{◌≡◌, ◌≢◌, List, ℕ, ◌+◌, ◌-◌, ◌*◌, ◌/◌, ◌%◌, ◌≤◌, ◌<◌, length, get_or, take, drop}
use Rattle.std.proofs.Common.{◌∙◌, length-drop, length-take-le, ap, arith}
use Rattle.finite.specs.Tests.{bit, below}
use Rattle.finite.proofs.Laws.Bools.{either, look}
use Rattle.finite.proofs.Laws.Below.{below_out, not-below}
use Rattle.bitset.specs.Set.{set_bytes, set_slots, has}
use Rattle.bitset.proofs.Laws.Part.{has_part, back, back_below, back_above, back-has}
use Rattle.limits.specs.Limits.{slots}
use Rattle.semantics.specs.Holds.{Set}
use Rattle.semantics.specs.Agree.{◌≐◌}
use Rattle.listing_sets.specs.Offsets.{set_at, SetWritten}

pub slot_in : {s : ℕ} → s < slots → s < set_slots
unfolding slots
slot_in h = h

-- how long the part is, as the code has it: from its start to its end
abbrev pub span : ℕ → ℕ
span j = set_bytes * j + set_bytes - set_bytes * j

module _ (b : List ℕ) (j : ℕ) where
  pub part_set : has (take (span j) (drop (set_bytes * j) b)) ≐ set_at b j
  unfolding slots set_at
  part_set s h =
      has_part b (set_bytes * j) (span j) s (omega arith) ∙ ap (has b) (let q : set_bytes * j * 8 + s ≡ set_slots * j + s = omega arith in q)

  module _ (fits : set_bytes * j + set_bytes ≤ length b) (ys : List ℕ) (l : length ys ≡ length (take (span j) (drop (set_bytes * j) b))) where
    size : length ys ≡ span j
    size = l ∙ length-take-le (span j) (drop (set_bytes * j) b) (omega (arith, length-drop (set_bytes * j) b))

    -- a byte of another set
    other : (i : ℕ) → i ≢ j → (n : ℕ) → set_bytes * i ≤ n → n < set_bytes * i + set_bytes → get_or (back b ys (set_bytes * j) (span j)) n 0 ≡ get_or b n 0
    other i ne n h g =
        either
        (look (below i j))
        (λ q. let w = below_out i j q in back_below b ys (set_bytes * j) (span j) (omega arith) size n (omega arith))
        (λ q. let w = not-below i j q in back_above b ys (set_bytes * j) (span j) (omega arith) size n (omega arith))

    pub set_written : (S : Set) → has ys ≐ S → SetWritten b (back b ys (set_bytes * j) (span j)) j S
    unfolding slots set_at has
    set_written S h =
        record {
          here = λ s l.
              ap (has (back b ys (set_bytes * j) (span j))) (let q : set_slots * j + s ≡ set_bytes * j * 8 + s = omega arith in q)
              ∙ back-has b ys (set_bytes * j) (span j) (omega arith) size s (omega arith)
              ∙ h s l;
          others = λ i ne s l.
              ap (λ (x : ℕ). bit x ((set_slots * i + s) % 8)) (other i ne ((set_slots * i + s) / 8) (omega arith) (omega arith));
        }

-- a set that has the same slots
pub written_like : {b b' : List ℕ} {j : ℕ} {S T : Set} → SetWritten b b' j S → S ≐ T → SetWritten b b' j T
written_like w e = record { here = λ s h. w.here s h ∙ e s h; others = w.others }
