-- The way back, and the slots that the start leads to.
use Rattle.std.specs.Prelude.{ℕ}
use Rattle.finite.specs.Tests.{same}
use Rattle.semantics.specs.Form.{Way, along, against, every}
use Rattle.semantics.specs.Holds.{Set, Model}
use Rattle.chains.specs.Layers.{within}

-- the way back
unfoldable pub reverse : Way → Way
reverse (along m) = against m
reverse (against m) = along m
reverse every = every

-- the set, computed: the slots from which the way back leads to s in at most k steps
unfoldable pub onward : Model → Way → ℕ → ℕ → Set
onward M w s = within M (reverse w) (λ t. same t s)
