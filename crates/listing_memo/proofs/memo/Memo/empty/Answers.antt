-- Each set is empty.
use Rattle.listing_memo.proofs.Laws.Memo.{started-none}
use Rattle.listing_memo.proofs.memo.Memo.empty.Goals as goal

pub returns : goal.returns
returns c = λ masks. started-none masks _ _ _ c.empty.ensures c.empty-no_nodes.ensures
