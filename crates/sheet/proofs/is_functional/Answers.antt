-- Links 4 to 7: the test from below is the other test turned round.
use Rattle.sheet.proofs.Laws.Fits.{functional_from}
use Rattle.sheet.proofs.is_functional.Goals as goal

pub returns : goal.returns
returns c = functional_from c.args.f
