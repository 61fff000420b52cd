use Rattle.std.proofs.Common.{◌∙◌}
use Rattle.bitset.proofs.Laws.Sets.{words_equal}
use Rattle.bitset.proofs.set.BitSetPartialEq.eq.Goals as goal

pub returns : goal.returns
returns g c = c.eq.ensures ∙ words_equal g.row.W c.self.inside.words c.other.inside.words c.self.invariant c.other.invariant c.self.view_is c.other.view_is
