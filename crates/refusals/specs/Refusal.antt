-- The numbers of the items of docs/SPEC.md, "Reasons", and items 1, 15, 16 and 17.
use Rattle.std.specs.Prelude.{Bool, not, ◌&&◌, cond, ℕ, Err}
use Rattle.finite.specs.Tests.{same, below}
use Rattle.limits.specs.Limits.{slots, every_way, highest_limit}
use Rattle.semantics.specs.Holds.{Model}
use Rattle.verdict.specs.Verdict.{Verdict, Accepted}
use Rattle.verdict.specs.declared.Refusal.TheVariants.{BufferLength, Rounds, Limit, Start}

-- the items have the numbers 1 to this one
abbrev pub last_item : ℕ
last_item = 18

-- item 1: a result or work buffer has another length than stated
unfoldable pub buffer_verdict : (len stated : ℕ) → Verdict
buffer_verdict len stated = cond (not (same len stated)) (Err BufferLength) Accepted

-- item 16: the limit on rounds is over the highest
unfoldable pub limit_verdict : (limit : ℕ) → Verdict
limit_verdict limit = cond (below highest_limit limit) (Err Limit) Accepted

-- item 15: listing makes n rounds, and that is over the limit
unfoldable pub rounds_verdict : (limit n : ℕ) → Verdict
rounds_verdict limit n = cond (below limit n) (Err Rounds) Accepted

-- the way is 0 to 15, and the start is a present slot of the site M
unfoldable pub start_is_fit : Model → (way start : ℕ) → Bool
start_is_fit M way start = below way every_way && (below start slots && M.present start)

-- item 17: it is not so
unfoldable pub start_verdict : Model → (way start : ℕ) → Verdict
start_verdict M way start = cond (not (start_is_fit M way start)) (Err Start) Accepted
