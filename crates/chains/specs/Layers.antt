-- The slots within k steps of the goal, round by round.
use Rattle.std.specs.Prelude.{◌&&◌, ◌||◌, ℕ}
use Rattle.finite.specs.Tests.{any}
use Rattle.limits.specs.Limits.{slots}
use Rattle.semantics.specs.Form.{Way}
use Rattle.semantics.specs.Holds.{Set, Model, step}
use Rattle.semantics.specs.Monotone.{◌⊆◌}
use Rattle.semantics.specs.FixedPoint.{iter}

-- S, and the slots from which w leads into T
unfoldable pub toward : Model → Way → Set → Set → Set
toward M w S T x = S x || any slots (λ t. step M w x t && T t)

-- the slots within k steps of S
unfoldable pub within : Model → Way → Set → ℕ → Set
within M w S k = iter k (toward M w S) S

module _ (M : Model) (w : Way) (S : Set) where
  -- one more round adds nothing
  unfoldable pub Rest : ℕ → Type 0
  Rest k = toward M w S (within M w S k) ⊆ within M w S k
