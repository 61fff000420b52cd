-- Among the slots that are not in the set.
use Rattle.chaining.proofs.Laws.Sets.{fresh_is}
use Rattle.chaining.proofs.fresh.Goals as goal

pub returns : goal.returns
returns c = fresh_is _ c.not-unseen.ensures c.among.ensures
