-- The rows of the classes have no slot at first.
use Rattle.partition.proofs.Laws.Gains.{empty_rows}
use Rattle.signatures.proofs.Members.new.Goals as goal

pub put_classes-requires : goal.put_classes-requires
put_classes-requires c = empty_rows c.empty-classes.result c.empty-classes.ensures
