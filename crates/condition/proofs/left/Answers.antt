-- The word at bytes 2 and 3 of a node.
use Rattle.condition.specs.Bytes.{node_at}
use Rattle.condition.proofs.left.Goals as goal

pub returns : goal.returns
unfolding node_at
returns c = c.word.ensures
