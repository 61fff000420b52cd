-- The end of the rounds: the partition has the class numbers.
use Rattle.std.specs.Prelude.{◌≡◌, true, List, ℕ, ◌<◌, length, get_or}
use Rattle.std.proofs.Common.{arith}
use Rattle.std.proofs.Math.Decide.{dec_lt}
use Rattle.std.proofs.Math.ListN.{get_or-eq_default}
use Rattle.finite.specs.Tests.{same, all}
use Rattle.finite.proofs.Laws.Below.{same_eq, all_out}
use Rattle.bitset.specs.Set.{set_slots}
use Rattle.limits.specs.Limits.{slots}
use Rattle.semantics.specs.Holds.{Model}
use Rattle.semantics.specs.Bisimulation.{IsClass}
use Rattle.semantics.specs.Refine.{bisimilar_in}
use Rattle.partition.specs.Rows.{Neighbours}
use Rattle.partition.specs.Partition.{Partitions, Refines}
use Rattle.partition.proofs.Laws.Rounds.{same_stable, stable_class, last_stable}
use Rattle.classes.specs.Classes.{Classes}

-- a class number is a slot, and so a byte
classes_of_lem : (M : Model) (p : List ℕ) → length p ≡ set_slots → ((s : ℕ) → s < slots → IsClass M s (get_or p s 0)) → Classes M p
unfolding slots
classes_of_lem M p l h = record { long = l; bytes = λ k. byte k (dec_lt k set_slots); each = h }
  where
    byte : (k : ℕ) → Dec (k < set_slots) → get_or p k 0 < 256
    byte k (yes d) = (h k d).is_slot
    byte k (no d) = omega (arith, get_or-eq_default p 0 {n = k} (omega arith))

module _ (M : Model) (k : ℕ) (p : List ℕ) (l : length p ≡ set_slots) (n : Partitions (bisimilar_in k M M) p) where
  -- a round that changed nothing: the partition before it has the class numbers
  pub refined_still : (W : List (List (List ℕ))) (q : List ℕ) → Neighbours M W → Refines W p q → all set_slots (λ s. same (get_or p s 0) (get_or q s 0)) ≡ true → Classes M p
  refined_still W q b f e =
      classes_of_lem M p l (stable_class M k n (same_stable M W k q b n f (λ s h. same_eq (all_out set_slots _ e s h))))

  -- after as many rounds as there are slots the partition has the class numbers
  pub refined_last : k ≡ set_slots → Classes M p
  refined_last e = classes_of_lem M p l (stable_class M k n (last_stable M k e))
