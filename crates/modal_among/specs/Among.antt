-- The slots of a set from which a way leads into another set.
use Rattle.std.specs.Prelude.{List, ◌&&◌, ℕ}
use Rattle.finite.specs.Tests.{any}
use Rattle.bitset.specs.Set.{has, Is}
use Rattle.limits.specs.Limits.{slots}
use Rattle.semantics.specs.Form.{Way}
use Rattle.semantics.specs.Holds.{Model, step}

-- r holds the slots of `pool` from which the way w leads into the set
pub record Among (M : Model) (w : Way) (set pool r : List ℕ) : Type 0 where
  pub holds : Is r (λ x. has pool x && any slots (λ t. step M w x t && has set t))
