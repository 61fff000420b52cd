-- A copy has a known kind, and 0 in the fields that its kind does not use.
use Rattle.blocks.proofs.Laws.Rows.{copied_node}
use Rattle.blocks.proofs.nodes.Node.copied.Goals as goal

pub returns : goal.returns
returns c = λ at. rw (c.min.ensures, c.own_number.ensures, c.used.ensures, c.used-2.ensures) (copied_node c.args.self.kind c.args.self.param c.args.self.left c.args.self.right at)
