-- Different numbers, gathered in a set and counted.
use Rattle.std.specs.Prelude.{◌≡◌, false, ◌||◌, List, ℕ, ◌+◌, get_or}
use Rattle.std.proofs.Common.{sym, ◌∙◌, ap₂, add-one}
use Rattle.std.proofs.Math.Bool.{or_comm}
use Rattle.finite.specs.Tests.{same, any, count}
use Rattle.finite.proofs.Laws.Bools.{both}
use Rattle.finite.proofs.Laws.Below.{same_eq, eq_same, count_cong}
use Rattle.bitset.specs.Set.{set_slots, has, Is}
use Rattle.classes.specs.Classes.{different}

pub same_turned : (a b : ℕ) → same a b ≡ same b a
same_turned a b = both (λ e. eq_same (sym (same_eq e))) (λ e. eq_same (sym (same_eq e)))

-- G has the numbers of the first n slots
pub Numbers : List ℕ → ℕ → List ℕ → Type 0
Numbers p n G = Is G (λ c. any n (λ s. same (get_or p s 0) c))

pub numbers_start : (p G : List ℕ) → Is G (λ c. false) → Numbers p 0 G
unfolding Numbers any
numbers_start p G e = e

pub numbers_more : (p : List ℕ) (n : ℕ) (G G' : List ℕ) → Is G' (λ c. has G c || same c (get_or p n 0)) → Numbers p n G → Numbers p (n + 1) G'
unfolding Numbers any
numbers_more p n G G' e h c i =
    e c i ∙ ap₂ ◌||◌ (h c i) (same_turned c (get_or p n 0)) ∙ rw add-one (or_comm (any n (λ s. same (get_or p s 0) c)) (same (get_or p n 0) c))

pub count-different : (p : List ℕ) (n : ℕ) (G : List ℕ) → n ≡ set_slots → Numbers p n G → count set_slots (has G) ≡ different p
unfolding different Numbers
count-different p n G e h = count_cong set_slots _ _ (λ c i. rw e at (h c i))
