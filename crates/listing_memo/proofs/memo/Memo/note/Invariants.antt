-- The digits below x are noted.
use Rattle.std.proofs.Common.{◌≡◌, ◌≤◌, length}
use Rattle.limits.specs.Limits.{variables}
use Rattle.listing_memo.specs.Memo.{Noted}
use Rattle.listing_memo.proofs.memo.Memo.note.Given as goal

abbrev pub invariant-loop-x : goal.invariant-loop-x
invariant-loop-x l = (length l.self.free_in ≡ variables) × (l.x ≤ variables) × Noted l.fn.self l.self l.j l.mask l.x
