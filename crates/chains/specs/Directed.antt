-- The slots exactly k steps away, and the sets that a walk can go by.
use Rattle.std.specs.Prelude.{◌≡◌, Bool, not, ◌&&◌, true, ℕ, zero, suc, ◌-◌, ◌<◌}
use Rattle.finite.specs.Tests.{any}
use Rattle.limits.specs.Limits.{slots}
use Rattle.semantics.specs.Form.{Way}
use Rattle.semantics.specs.Holds.{Set, Model, step}
use Rattle.chains.specs.Layers.{within}
use Rattle.chains.specs.Reached.{onward}

-- the slots from which the way w leads into T
unfoldable pub into : Model → Way → Set → Set
into M w T x = any slots (λ t. step M w x t && T t)

-- the slots that are k steps away from S, and no fewer
unfoldable pub exact : Model → Way → Set → ℕ → Set
exact M w S zero = S
exact M w S (suc k) = λ x. within M w S (suc k) x && not (within M w S k x)

-- some slot k steps away from S is in T
unfoldable pub meeting : Model → Way → Set → Set → ℕ → Bool
meeting M w S T k = any slots (λ t. exact M w S k t && T t)

-- the sets that a walk of n steps from s can go by: from a slot that is n - 1 - j steps after s, a step leads into set j exactly if it leads to
-- within j steps of the goal
pub record Layered (M : Model) (w : Way) (S : Set) (s n : ℕ) (T : ℕ → Set) : Type 0 where
  pub agrees : (j x t : ℕ) → j < n → x < slots → t < slots → onward M w s (n - suc j) x ≡ true → step M w x t ≡ true → T j t ≡ within M w S j t
