-- The four bytes are inside the trailer.
use Rattle.trailer.specs.File.{number}
use Rattle.trailer.proofs.read_number.Goals as goal

pub returns : goal.returns
unfolding number
returns c = c.quad.ensures
