-- Two conditions of five nodes, and the node over them.
use Rattle.own_conditions.proofs.Laws.Nodes.{put_as, neither_put}
use Rattle.own_conditions.proofs.put_neither_nil.Goals as goal

pub returns : goal.returns
returns c =
    neither_put c.args.out.now c.args.at c.args.n1 c.args.n2 (rw (c.leaf.ensures, c.leaf-2.ensures) at c.put_nowhere.ensures)
    (rw (c.leaf-3.ensures, c.leaf-4.ensures) at c.put_nowhere-2.ensures) (put_as _ _ c.put_node.ensures c.over_both.ensures)
