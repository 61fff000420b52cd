-- By the test of item 1.
use Rattle.std.proofs.Common.{sym}
use Rattle.refusals.proofs.Laws.Items.{buffer_in, buffer_not}
use Rattle.refusals.proofs.check_length.Goals as goal

pub returns-then-buffer-stated : goal.returns-then-buffer-stated
returns-then-buffer-stated c = sym (buffer_in c.if-buffer-stated.true)

pub returns-else-buffer-stated : goal.returns-else-buffer-stated
returns-else-buffer-stated c = sym (buffer_not c.if-buffer-stated.false)
