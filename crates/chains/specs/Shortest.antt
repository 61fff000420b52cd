-- How far the goal is, and the next slot toward it.
use Rattle.std.specs.Prelude.{◌≡◌, false, ◌&&◌, true, ℕ, ◌<◌}
use Rattle.finite.specs.Tests.{first}
use Rattle.limits.specs.Limits.{slots}
use Rattle.semantics.specs.Form.{Way}
use Rattle.semantics.specs.Holds.{Set, Model, step}
use Rattle.chains.specs.Layers.{within}

module _ (M : Model) (w : Way) (S : Set) where
  -- the goal is k steps away from x, and no fewer
  pub record Away (k x : ℕ) : Type 0 where
    pub in_reach : within M w S k x ≡ true
    pub no_nearer : (j : ℕ) → j < k → within M w S j x ≡ false

  -- the lowest slot after x that is within k steps
  unfoldable pub next : ℕ → ℕ → ℕ
  next k x = first slots (λ t. step M w x t && within M w S k t)
