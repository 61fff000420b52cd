-- The loop of a mu or nu in code, which keeps the set, the sum of the rounds made and whether the set moved: a law for each step.
use Rattle.std.specs.Prelude.{◌≡◌, refl, ◌⊎◌, Bool, not, cond, ℕ, suc, ◌+◌, ◌-◌, ◌≤◌, ◌<◌, true, false}
use Rattle.std.proofs.Common.{sym, ◌∙◌, inl, inr, arith}
use Rattle.finite.proofs.Laws.Bools.{no_true}
use Rattle.semantics.specs.Holds.{Set}
use Rattle.semantics.specs.Agree.{◌≐◌}
use Rattle.rounds.specs.Count.{loop}
use Rattle.rounds.proofs.Laws.Count.{same_in, same_out, loop-agree}

-- a round counts, with those inside it; it is the last, or not
pub loop-first : (k : ℕ) (F : Set → Set) (g : Set → ℕ) (S : Set) → 1 + g S ≤ loop (suc k) F g S
unfolding loop
loop-first k F g S = omega arith

pub loop-last : (k : ℕ) (F : Set → Set) (g : Set → ℕ) (S : Set) → F S ≐ S → loop (suc k) F g S ≡ 1 + g S
unfolding loop
loop-last k F g S e = rw (same_in (F S) S e, loop) (omega arith)

pub loop_more : (k : ℕ) (F : Set → Set) (g : Set → ℕ) (S : Set) → ¬ (F S ≐ S) → loop (suc k) F g S ≡ 1 + g S + loop k F g (F S)
unfolding loop
loop_more k F g S h = rw (no_true (λ p. h (same_out (F S) S p)), loop) refl

-- after k evaluations of the body, of at most `most`, n rounds were made in all, and the set is S. Where it moved the loop goes on, and what is
-- made from S on makes n up to the loop's number
abbrev pub Counted : (most : ℕ) (F : Set → Set) (g : Set → ℕ) (start : Set) (k n : ℕ) (S : Set) (moved : Bool) → Type 0
Counted most F g start k n S moved = n + cond moved (loop (most - k) F g S) 0 ≡ loop most F g start

module _ (most : ℕ) (F : Set → Set) (g : Set → ℕ) (start : Set)
    (F_same : (S S' : Set) → S ≐ S' → F S ≐ F S') (g_same : (S S' : Set) → S ≐ S' → g S ≡ g S') where
  pub counted_start : (S : Set) → S ≐ start → Counted most F g start 0 0 S true
  counted_start S e =
      let all_left : most - 0 ≡ most = omega arith in
      let begun : loop most F g S ≡ loop most F g start = loop-agree F F g g F_same g_same most S start e in
      rw all_left (omega arith)

  module _ (k n : ℕ) (S : Set) (c : Counted most F g start k n S true) (l : k < most) where
    -- what is left before the evaluation
    left : n + loop (suc (most - (k + 1))) F g S ≡ loop most F g start
    left = let one : most - k ≡ suc (most - (k + 1)) = omega arith in rw one at c

    -- one more evaluation, which gives T: S again, or another set
    pub counted_more : (T : Set) (back : Bool) → T ≐ F S → (back ≡ true → T ≐ S) → (back ≡ false → ¬ (T ≐ S))
        → Counted most F g start (k + 1) (n + (1 + g S)) T (not back)
    counted_more T true e y _ = omega (arith, left, loop-last (most - (k + 1)) F g S (λ x h. sym (e x h) ∙ y refl x h))
    counted_more T false e _ y =
        let on : loop (most - (k + 1)) F g T ≡ loop (most - (k + 1)) F g (F S) = loop-agree F F g g F_same g_same _ T (F S) e in
        omega (arith, left, loop_more (most - (k + 1)) F g S (λ d. y refl (λ x h. e x h ∙ d x h)))

    -- the evaluation that is under way counts: where the sum with it is over a limit, the loop's number is
    pub counted_over : n + (1 + g S) ≤ loop most F g start
    counted_over = omega (arith, left, loop-first (most - (k + 1)) F g S)

  -- the set came back, or the evaluations are used up: the sum is the loop's number
  pub counted_done : (k n : ℕ) (S : Set) (moved : Bool) → Counted most F g start k n S moved → (moved ≡ false) ⊎ (most ≤ k) → n ≡ loop most F g start
  unfolding loop
  counted_done k n S moved c (inl e) = let d = rw e at c in omega arith
  counted_done k n S true c (inr l) = let none_left : most - k ≡ 0 = omega arith in let d = rw (none_left, loop) at c in omega arith
  counted_done k n S false c (inr l) = omega arith
