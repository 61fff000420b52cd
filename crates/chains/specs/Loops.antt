-- The number of the way back.
use Rattle.std.specs.Prelude.{cond, ℕ, ◌+◌, ◌-◌}
use Rattle.finite.specs.Tests.{below}
use Rattle.limits.specs.Limits.{links}

-- the number of the way back
unfoldable pub reverse_no : ℕ → ℕ
reverse_no p = cond (below p links) (p + links) (p - links)
