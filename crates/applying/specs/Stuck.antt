-- Item 13 of docs/SPEC.md, "Reasons": an edit does not go through on the site it meets.
use Rattle.std.specs.Prelude.{List, [], ◌∷◌, cond, ℕ, suc}
use Rattle.semantics.specs.Holds.{Model}
use Rattle.semantics.specs.Edit.{Edit, edit, goes}

-- W, the lowest edit that does not go through, counted from 0: how many edits before it go through, each on the site left by those before
-- it. Where all go through it is the number of edits
unfoldable pub stuck_at : List Edit → Model → ℕ
stuck_at [] M = 0
stuck_at (e ∷ es) M = cond (goes e M) (suc (stuck_at es (edit e M))) 0
