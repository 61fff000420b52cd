-- From slot to slot of a pool, those that lead on are put in; or they are found among all, and met with the pool.
use Rattle.std.specs.Prelude.{◌≡◌, ◌≢◌, refl, Bool, true, false, ◌&&◌, ◌||◌, Some, List, ℕ, ◌<◌}
use Rattle.std.proofs.Common.{◌∙◌, sym, ap}
use Rattle.std.proofs.Math.Bool.{and_comm, and-true, and-false, or-true, or-false}
use Rattle.finite.specs.Tests.{same, any}
use Rattle.finite.proofs.Laws.Bools.{either}
use Rattle.finite.proofs.Laws.Below.{equal?, same_refl, ne_same, any_none}
use Rattle.bitset.specs.Set.{set_slots, has, Is, Next}
use Rattle.modal.proofs.Laws.Gather.{lowest_passes}

-- of the slots of the pool that p says, R has all but those that are left
pub record Passed (p : ℕ → Bool) (pool left R : List ℕ) : Type 0 where
  pub rest : (s : ℕ) → s < set_slots → (has R s || (has left s && p s)) ≡ (has pool s && p s)

module _ {p : ℕ → Bool} {pool : List ℕ} where
  pub passed_none : {R : List ℕ} → Is R (λ s. false) → Passed p pool pool R
  passed_none e = record { rest = λ s h. rw (e s h) refl }

  module _ {left R : List ℕ} (g : Passed p pool left R) where
    module _ (left' : List ℕ) (t : ℕ) (n : Next set_slots left (Some t) left') {a : Bool} (e : a ≡ p t) where
      is_left : has left t ≡ true
      is_left = lowest_passes set_slots (has left) t n.0 n.1

      taken : has left' t ≡ false
      taken = n.2 t n.0 ∙ rw (same_refl t) (and-false (has left t))

      others : (s : ℕ) → s < set_slots → s ≢ t → has left' s ≡ has left s
      others s h q = n.2 s h ∙ rw (ne_same q) (and-true (has left s))

      pub passed_in : a ≡ true → {R' : List ℕ} → Is R' (λ s. has R s || same s t) → Passed p pool left' R'
      passed_in y m = record {
        rest = λ s h. either (equal? s t)
            (λ q. rw (q, m t n.0, same_refl t, or-true (has R t)) (sym (sym (g.rest t n.0) ∙ rw (is_left, sym e ∙ y) (or-true (has R t)))))
            (λ q. rw (m s h, ne_same q, or-false (has R s), others s h q) (g.rest s h));
      }

      pub passed_out : a ≡ false → Passed p pool left' R
      passed_out y = record {
        rest = λ s h. either (equal? s t)
            (λ q. rw (q, taken) (sym (sym (g.rest t n.0) ∙ rw (is_left, sym e ∙ y) refl)))
            (λ q. rw (others s h q) (g.rest s h));
      }

    pub passed_done : any set_slots (has left) ≡ false → Is R (λ s. has pool s && p s)
    passed_done e s h = sym (rw (any_none set_slots (has left) e s h) (or-false (has R s))) ∙ g.rest s h

-- found among all, and met with the pool
pub met : {p : ℕ → Bool} (found pool r : List ℕ) → Is found p → Is r (λ s. has found s && has pool s) → Is r (λ s. has pool s && p s)
met found pool r d m s h = m s h ∙ and_comm (has found s) (has pool s) ∙ ap (◌&&◌ (has pool s)) (d s h)
