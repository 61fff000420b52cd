-- The first byte of a node.
use Rattle.std.proofs.Common.{refl}
use Rattle.condition.specs.Bytes.{node_at}
use Rattle.condition.proofs.kind.Goals as goal

pub returns : goal.returns
unfolding node_at
returns c = refl
