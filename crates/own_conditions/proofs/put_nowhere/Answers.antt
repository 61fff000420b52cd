-- Five nodes: two leaves, and three over them.
use Rattle.own_conditions.proofs.Laws.Nodes.{put_as, puts_five}
use Rattle.own_conditions.proofs.put_nowhere.Goals as goal

pub returns : goal.returns
returns c =
    puts_five c.args.out.now c.args.at _ _ _ _ _ c.put_node.ensures c.put_node-2.ensures (put_as _ _ c.put_node-3.ensures c.over_both.ensures) (put_as _ _ c.put_node-4.ensures c.over.ensures)
    (put_as _ _ c.put_node-5.ensures c.over-2.ensures)
