-- The steps of a row, node by node.
use Rattle.std.proofs.Common.{◌≡◌, map, take}
use Rattle.blocks.specs.Steps.{node_of}
use Rattle.blocks.specs.Write.{puts}
use Rattle.blocks.proofs.write_row.Given as goal

abbrev pub invariant-loop-place : goal.invariant-loop-place
invariant-loop-place l =
    l.out ≡ puts l.initial.out l.at 0 (take l.place (map (node_of l.numbers l.at l.image) l.steps))
