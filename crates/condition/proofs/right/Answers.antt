-- The word at bytes 4 and 5 of a node.
use Rattle.condition.specs.Bytes.{node_at}
use Rattle.condition.proofs.right.Goals as goal

pub returns : goal.returns
unfolding node_at
returns c = c.word.ensures
