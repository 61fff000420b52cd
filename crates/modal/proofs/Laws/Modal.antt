-- The diamond everywhere, and the box by the diamond.
use Rattle.std.specs.Prelude.{◌≡◌, Bool, not, ◌&&◌, ◌||◌, List, ℕ}
use Rattle.std.proofs.Common.{sym, ◌∙◌, ap}
use Rattle.std.proofs.Math.Bool.{not-not}
use Rattle.finite.specs.Tests.{any, all}
use Rattle.finite.proofs.Laws.Below.{any_cong}
use Rattle.finite.proofs.Laws.Dual.{all_any}
use Rattle.bitset.specs.Set.{set_slots, has, Is}
use Rattle.limits.specs.Limits.{slots}

-- O is the complement of T, D the diamond of O, and B the complement of D
pub box_diamond : (f : ℕ → ℕ → Bool) (T O D B : List ℕ) → Is O (λ t. not (has T t)) → Is D (λ s. any slots (λ t. f s t && has O t))
    → Is B (λ s. not (has D s)) → Is B (λ s. all slots (λ t. not (f s t) || has T t))
unfolding slots
box_diamond f T O D B o d b s h =
    b s h
    ∙ ap not (d s h ∙ any_cong slots _ _ (λ t k. ap (λ (x : Bool). f s t && x) (o t k)))
    ∙ sym (all_any slots (f s) (has T))

-- where the set is empty no slot reaches it from anywhere, and where it is not each does
pub from_everywhere : (T R : List ℕ) (b : Bool) → b ≡ not (any set_slots (has T)) → Is R (λ s. not b) → Is R (λ s. any slots (λ t. has T t))
unfolding slots
from_everywhere T R b e r s h = r s h ∙ ap not e ∙ not-not (any set_slots (has T))
