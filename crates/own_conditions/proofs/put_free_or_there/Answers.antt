-- Two conditions of five nodes, the first one negated, and the node over them.
use Rattle.own_conditions.proofs.Laws.Nodes.{put_as, free-put}
use Rattle.own_conditions.proofs.put_free_or_there.Goals as goal

pub returns : goal.returns
returns c =
    free-put c.args.out.now c.args.at c.args.m c.args.n1 c.args.n2 (rw c.leaf.ensures at c.put_reaches.ensures) (put_as _ _ c.put_node.ensures c.over.ensures)
    (rw c.leaf-2.ensures at c.put_reaches-2.ensures) (put_as _ _ c.put_node-2.ensures c.over_both.ensures)
