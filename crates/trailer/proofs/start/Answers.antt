-- The distances of a file that item 2 does not refuse stay inside it.
use Rattle.std.proofs.Common.{arith}
use Rattle.trailer.specs.File.{start_of}
use Rattle.trailer.proofs.Laws.Pieces.{distance_in}
use Rattle.trailer.proofs.Laws.Verdict.{laid}
use Rattle.trailer.proofs.start.Goals as goal

pub overflow_sub-result : goal.overflow_sub-result
overflow_sub-result c = omega (arith, (laid _ c.requires.0).enough)

pub read_number-requires : goal.read_number-requires
read_number-requires c = ((laid _ c.requires.0).enough, omega arith)

pub overflow_sub-result-2 : goal.overflow_sub-result-2
overflow_sub-result-2 c = omega (arith, c.read_number.ensures.0, distance_in _ (laid _ c.requires.0) _ c.requires.1)

pub returns : goal.returns
unfolding start_of
returns c = (omega (arith, c.read_number.ensures.0), omega arith)
