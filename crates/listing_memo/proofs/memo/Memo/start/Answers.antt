-- The masks of the first j nodes are noted.
use Rattle.listing_memo.proofs.Laws.Memo.{started_more}
use Rattle.listing_memo.proofs.memo.Memo.start.Goals as goal

pub loop-j-preserved : goal.loop-j-preserved
loop-j-preserved c = started_more c.loop-j.invariant c.note.ensures
