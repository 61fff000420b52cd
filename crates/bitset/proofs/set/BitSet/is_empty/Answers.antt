use Rattle.bitset.proofs.Laws.Sets.{lowest_tells}
use Rattle.bitset.proofs.set.BitSet.is_empty.Goals as goal

pub returns : goal.returns
returns g c = lowest_tells _ _ c.lowest.result c.is_none.result c.lowest.ensures.some c.lowest.ensures.none c.is_none.ensures
