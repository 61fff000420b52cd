-- Partitions by a relation, and the search for the lowest slot of a class.
use Rattle.std.specs.Prelude.{◌≡◌, true, List, ℕ, ◌+◌, ◌≤◌, ◌<◌, length, get_or, set, false}
use Rattle.std.proofs.Common.{◌∙◌, subst, arith, get_or-set_same, get_or-set_other, sym}
use Rattle.finite.specs.Tests.{any, first}
use Rattle.finite.proofs.Laws.Bools.{either, both}
use Rattle.finite.proofs.Laws.Below.{equal?, same_eq, same_refl, eq_same, any_in, any_none, none_any}
use Rattle.finite.proofs.Laws.First.{first_cong, first_in, first_low}
use Rattle.bitset.specs.Set.{set_slots}
use Rattle.semantics.specs.Refine.{Rel}
use Rattle.partition.specs.Partition.{together, Partition, Partitions, by_row_of}

-- a loop that fills a list from the front
pub put_more : {X : Type 0} (d : X) (P : ℕ → X → Type 0) (r : List X) (s : ℕ) (v : X) → s < length r → ((k : ℕ) → k < s → P k (get_or r k d)) → P s v
    → (k : ℕ) → k < s + 1 → P k (get_or (set r s v) k d)
put_more d P r s v h f x k l =
    either
    (equal? k s)
    (λ e. rw (e, get_or-set_same r s v d h) x)
    (λ n. rw (get_or-set_other r s k v d n) (f k (omega arith)))

-- a list that gives each slot the lowest slot that an equivalence relates to it is its partition
module _ (E : Rel) (E_refl : (s : ℕ) → E s s ≡ true) (E_sym : (s t : ℕ) → E s t ≡ true → E t s ≡ true)
    (E_trans : (s t u : ℕ) → E s t ≡ true → E t u ≡ true → E s u ≡ true) (p : List ℕ)
    (n : (s : ℕ) → s < set_slots → get_or p s 0 ≡ first set_slots (E s)) where
  there : (s : ℕ) → s < set_slots → E s (get_or p s 0) ≡ true
  there s h = rw (n s h) (first_in set_slots (E s) (any_in set_slots (E s) s h (E_refl s))).1

  by : (s t : ℕ) → s < set_slots → t < set_slots → together p s t ≡ E s t
  by s t h k =
      both
      (λ q. E_trans s (get_or p t 0) t (subst (λ (c : ℕ). E s c ≡ true) (same_eq q) (there s h)) (E_sym t (get_or p t 0) (there t k)))
      (λ q. eq_same (n s h ∙ first_cong set_slots (E s) (E t) (λ u _. both (E_trans t s u (E_sym s t q)) (E_trans s t u q)) ∙ sym (n t k)))

  pub partitions_of : Partitions E p
  unfolding Partition
  partitions_of = record { lowest = λ s h. n s h ∙ first_cong set_slots (E s) (together p s) (λ t k. sym (by s t h k)); by = by }

-- relations that agree on slots have one partition
pub partitions_map : {E F : Rel} {p : List ℕ} → ((s t : ℕ) → s < set_slots → t < set_slots → E s t ≡ F s t) → Partitions E p → Partitions F p
partitions_map h q = record { lowest = q.lowest; by = λ s t a b. q.by s t a b ∙ h s t a b }

-- the numbers of a partition by E are the lowest slots that E relates
pub partitions_first : {E : Rel} {p : List ℕ} → Partitions E p → (s : ℕ) → s < set_slots → get_or p s 0 ≡ first set_slots (E s)
unfolding Partition
partitions_first {E} {p} q s h = q.lowest s h ∙ first_cong set_slots (together p s) (E s) (λ t k. q.by s t h k)

module _ (q : List ℕ) (n : Partition q) (s : ℕ) (h : s < set_slots) where
  -- a class number is no higher than the slot
  pub number_le : get_or q s 0 ≤ s
  unfolding Partition
  number_le = rw (n s h) (first_low set_slots (together q s) s h (same_refl (get_or q s 0)))

  -- no slot below the class number is in the class
  pub number_low : (R : List (List ℕ)) → any (get_or q s 0) (by_row_of q R s) ≡ false
  unfolding Partition by_row_of
  number_low R = none_any (get_or q s 0) (by_row_of q R s) (λ t l. rw (any_none (get_or q s 0) (together q s) none t l))
    where
      none : any (get_or q s 0) (together q s) ≡ false
      none = rw (n s h) (first_in set_slots (together q s) (any_in set_slots (together q s) s h (same_refl (get_or q s 0)))).2

  pub number_small : get_or q s 0 < set_slots
  number_small = omega (arith, number_le)
