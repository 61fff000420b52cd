-- The nodes of each condition.
use Rattle.own_conditions.proofs.Laws.Nodes.{put_as, link_put}
use Rattle.semantics.specs.Block.{size, root, emit}
use Rattle.semantics.specs.Table.{kind_no}
use Rattle.own_conditions.proofs.Condition.put.Goals as goal

pub returns-in-Absent : goal.returns-in-Absent
unfolding emit root size kind_no
returns-in-Absent c = rw c.in-Absent.is (rw (c.leaf.ensures, c.leaf-in-Absent.ensures) at c.put_nowhere.ensures)

pub returns-in-NotNil : goal.returns-in-NotNil
unfolding emit root size kind_no
returns-in-NotNil c = rw c.in-NotNil.is (rw (c.leaf-in-NotNil.ensures, c.leaf-in-NotNil-2.ensures) at c.put_nowhere-in-NotNil.ensures)

pub returns-in-FreeOrThere : goal.returns-in-FreeOrThere
returns-in-FreeOrThere c =
    rw c.in-FreeOrThere.is
    (link_put c.args.out.now c.args.at c.in-FreeOrThere.m c.in-FreeOrThere.n1 c.in-FreeOrThere.n2 c.put_neither_nil-in-FreeOrThere.ensures c.put_free_or_there.ensures
    (put_as _ _ c.put_node.ensures c.over_both.ensures))
