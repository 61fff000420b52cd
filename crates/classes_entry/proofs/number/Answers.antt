-- The numbers that `refine` gives are copied, and counted.
use Rattle.classes_entry.proofs.number.Goals as goal

pub returns-clause-classes : goal.returns-clause-classes
returns-clause-classes c = rw c.copy_from_slice.ensures.after c.refine-numbers.ensures

pub returns-clause-value : goal.returns-clause-value
returns-clause-value c = rw c.copy_from_slice.ensures.after c.count.ensures
