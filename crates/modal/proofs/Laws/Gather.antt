-- Loops that gather a set: over all slots in turn, or over the slots of a set.
use Rattle.std.specs.Prelude.{◌≡◌, refl, Bool, true, false, not, ◌&&◌, ◌||◌, Some, List, ℕ, ◌+◌, ◌≤◌, ◌<◌}
use Rattle.std.proofs.Common.{◌∙◌, sym, ap, arith}
use Rattle.std.proofs.Math.Bool.{and-true, and-false, or-false, or_assoc}
use Rattle.finite.specs.Tests.{same, below, any, first}
use Rattle.finite.proofs.Laws.Bools.{either, look, and_in, and_l, and_r, or_l, or_r, or_out, both}
use Rattle.finite.proofs.Laws.Below.{equal?, same_refl, ne_same, below_in, below_out, below-not, any_in, any_out, any_none, none_any}
use Rattle.finite.proofs.Laws.First.{first-none, first_in}
use Rattle.bitset.specs.Set.{set_slots, has, Is, Next}
use Rattle.limits.specs.Limits.{slots}

-- R has those of the slots below i that p says
pub record Chosen (p : ℕ → Bool) (R : List ℕ) (i : ℕ) : Type 0 where
  pub holds : Is R (λ s. below s i && p s)

module _ {p : ℕ → Bool} where
  pub chosen_none : {R : List ℕ} → Is R (λ s. false) → Chosen p R 0
  chosen_none e = record { holds = λ s h. e s h ∙ sym (rw (below-not s 0 (omega arith)) refl) }

  chosen_more : {R R' : List ℕ} {i : ℕ} → Chosen p R i → Is R' (λ s. has R s || (same s i && p i)) → Chosen p R' (i + 1)
  chosen_more {R} {i = i} g m = record { holds = λ s h. m s h ∙ ap (λ (b : Bool). b || (same s i && p i)) (g.holds s h) ∙ more s }
    where
      more : (s : ℕ) → ((below s i && p s) || (same s i && p i)) ≡ (below s (i + 1) && p s)
      more s = either (equal? s i)
          (λ q. rw (q, same_refl i, below-not i i (omega arith), below_in i (i + 1) (omega arith)) refl)
          (λ q. rw (ne_same q, or-false (below s i && p s)) (ap (λ (b : Bool). b && p s) (both
          (λ b. let l = below_out s i b in below_in s (i + 1) (omega arith))
          (λ b. let l = below_out s (i + 1) b in below_in s i (omega arith)))))

  -- slot i, which is v in the call that puts it in
  pub chosen_in : {R R' R'' : List ℕ} {i : ℕ} → Chosen p R i → {a : Bool} → a ≡ p i → a ≡ true → {v : ℕ} → v ≡ i → Is R' (λ s. has R s || same s v)
      → R'' ≡ R' → Chosen p R'' (i + 1)
  chosen_in {R} {i = i} g e y q m z = rw z (chosen_more g (λ s h. m s h ∙ rw (q, sym e ∙ y) (ap (◌||◌ (has R s)) (sym (and-true (same s i))))))

  pub chosen_out : {R R' : List ℕ} {i : ℕ} → Chosen p R i → {a : Bool} → a ≡ p i → a ≡ false → R' ≡ R → Chosen p R' (i + 1)
  chosen_out {R} {i = i} g e y z = rw z (chosen_more g (λ s h. rw (sym e ∙ y, and-false (same s i)) (sym (or-false (has R s)))))

  pub chosen_done : {R : List ℕ} {i : ℕ} → Chosen p R i → set_slots ≤ i → Is R p
  chosen_done {i = i} g l s h = g.holds s h ∙ rw (below_in s i (omega arith)) refl

-- the lowest number that passes does pass
pub lowest_passes : (n : ℕ) (f : ℕ → Bool) (t : ℕ) → t < n → t ≡ first n f → f t ≡ true
lowest_passes n f t h e =
    let some : any n f ≡ true = either (look (any n f)) (λ q. q) (λ q. absurd (omega (arith, e, first-none n f q))) in
    ap f e ∙ (first_in n f some).1

-- of what the slots t of T put in, f t each, R has all but what those of `left` do
pub record Gathered (f : ℕ → ℕ → Bool) (T left R : List ℕ) : Type 0 where
  pub rest : (s : ℕ) → s < set_slots → (has R s || any set_slots (λ t. f t s && has left t)) ≡ any set_slots (λ t. f t s && has T t)

module _ {f : ℕ → ℕ → Bool} {T : List ℕ} where
  pub gathered_none : {R : List ℕ} → Is R (λ s. false) → Gathered f T T R
  gathered_none e = record { rest = λ s h. rw (e s h) refl }

  module _ {left R : List ℕ} (g : Gathered f T left R) where
    pub gathered_more : {left' R' : List ℕ} {t : ℕ} → Next set_slots left (Some t) left' → Is R' (λ s. has R s || f t s) → Gathered f T left' R'
    gathered_more {left'} {R'} {t} n m = record {
      rest = λ s h.
          ap (λ (b : Bool). b || any set_slots (λ u. f u s && has left' u)) (m s h)
          ∙ or_assoc (has R s) (f t s) _ ∙ ap (◌||◌ (has R s)) (parts s) ∙ g.rest s h;
    }
      where
        parts : (s : ℕ) → (f t s || any set_slots (λ u. f u s && has left' u)) ≡ any set_slots (λ u. f u s && has left u)
        parts s = both
            (λ p. either (or_out (f t s) _ p)
            (λ q. any_in set_slots _ t n.0 (and_in q (lowest_passes set_slots (has left) t n.0 n.1)))
            (λ q.
            let r = any_out set_slots _ q in
            any_in set_slots _ r.0 r.1
            (and_in (and_l (f r.0 s) (has left' r.0) r.2)
            (and_l (has left r.0) (not (same r.0 t)) (sym (n.2 r.0 r.1) ∙ and_r (f r.0 s) (has left' r.0) r.2)))))
            (λ p.
            let r = any_out set_slots _ p in
            let passes : f r.0 s ≡ true = and_l (f r.0 s) (has left r.0) r.2 in
            either (equal? r.0 t)
            (λ q. or_l (f t s) _ (rw q at passes))
            (λ q.
            or_r (f t s) _ (any_in set_slots _ r.0 r.1
            (and_in passes (n.2 r.0 r.1 ∙ and_in (and_r (f r.0 s) (has left r.0) r.2) (ap not (ne_same q)))))))

    pub gathered_done : any set_slots (has left) ≡ false → Is R (λ s. any slots (λ t. f t s && has T t))
    unfolding slots
    gathered_done e s h =
        let none : any set_slots (λ t. f t s && has left t) ≡ false = none_any set_slots _ (λ t l. rw (any_none set_slots (has left) e t l) (and-false (f t s))) in
        sym (ap (◌||◌ (has R s)) none ∙ or-false (has R s)) ∙ g.rest s h
