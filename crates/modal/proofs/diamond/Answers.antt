-- By the way: along a link, against it, or everywhere.
use Rattle.std.proofs.Common.{◌∙◌, sym, true, false}
use Rattle.semantics.specs.Holds.{step}
use Rattle.modal.proofs.Laws.Modal.{from_everywhere}
use Rattle.modal.proofs.diamond.Goals as goal

pub returns-in-Along : goal.returns-in-Along
unfolding step
returns-in-Along c = rw c.in-Along.is c.preimage.ensures

pub returns-in-Against : goal.returns-in-Against
unfolding step
returns-in-Against c = rw c.in-Against.is c.image.ensures

pub returns-in-Everywhere : goal.returns-in-Everywhere
unfolding step
returns-in-Everywhere c = rw c.in-Everywhere.is (from_everywhere c.args.set.now _ true (sym c.if-is_empty.true ∙ c.is_empty.ensures) c.empty.ensures)

pub returns-in-Everywhere-2 : goal.returns-in-Everywhere-2
unfolding step
returns-in-Everywhere-2 c = rw c.in-Everywhere-2.is (from_everywhere c.args.set.now _ false (sym c.if-is_empty.false ∙ c.is_empty.ensures) c.full.ensures)
