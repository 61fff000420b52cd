-- What a node of the code means.
use Rattle.semantics.specs.Table as table
use Rattle.blocks.specs.declared.nodes.Node.{Node}

abbrev pub meant : Node → table.Node
meant x = record { kind = x.kind; param = x.param; left = x.left; right = x.right }
