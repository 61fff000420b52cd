-- The nodes below i have their images and stages, and next is the start of the next block.
use Rattle.emitting.specs.State.{Numbering}
use Rattle.sheet.specs.Bytes.{edit_of}
use Rattle.emitting.proofs.number.Given as goal

abbrev pub invariant-loop-i : goal.invariant-loop-i
invariant-loop-i l = Numbering l.table (edit_of l.e) l.images l.stages l.i l.next
