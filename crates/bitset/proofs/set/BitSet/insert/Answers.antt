use Rattle.std.proofs.Common.{◌∙◌, ap, ◌||◌}
use Rattle.finite.specs.Tests.{same}
use Rattle.bitset.specs.Set.{has}
use Rattle.bitset.proofs.Laws.Sets.{inserted_fit, inserted_holds}
use Rattle.bitset.proofs.set.BitSet.insert.Goals as goal

pub invariant_of-self : goal.invariant_of-self
invariant_of-self g c = inserted_fit g.row.W c.self.inside.words c.args.s c.self.invariant c.requires

pub returns : goal.returns
returns g c = λ s h. inserted_holds g.row.W c.self.inside.words c.args.s c.self.invariant c.requires s h ∙ ap (λ S. has S s || same s c.args.s) c.self.view_is
