-- The parts of item 2, in their order.
use Rattle.std.proofs.Common.{sym, arith}
use Rattle.finite.specs.Tests.{same, below}
use Rattle.trailer.proofs.Laws.Verdict.{too_short, too_long, by_distances}
use Rattle.trailer.proofs.refused.Goals as goal

pub returns-then-file-lt-TRAILER_BYTES : goal.returns-then-file-lt-TRAILER_BYTES
returns-then-file-lt-TRAILER_BYTES c = sym (too_short _ (omega arith))

pub returns-then-file-gt-FILE_LIMIT : goal.returns-then-file-gt-FILE_LIMIT
returns-then-file-gt-FILE_LIMIT c = sym (too_long _ (omega arith) (omega arith))

pub returns : goal.returns
unfolding below same
returns c = by_distances _ c.read_number-sheet.ensures.0 c.read_number-condition.ensures.0 c.read_number-site.ensures.0
    (omega arith) (omega arith)
