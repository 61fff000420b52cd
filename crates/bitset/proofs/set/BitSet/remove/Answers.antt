use Rattle.std.proofs.Common.{◌∙◌, ap, ◌&&◌, not}
use Rattle.finite.specs.Tests.{same}
use Rattle.bitset.specs.Set.{has}
use Rattle.bitset.proofs.Laws.Sets.{removed_fit, removed_holds}
use Rattle.bitset.proofs.set.BitSet.remove.Goals as goal

pub invariant_of-self : goal.invariant_of-self
invariant_of-self g c = removed_fit g.row.W c.self.inside.words c.args.s c.self.invariant c.requires

pub returns : goal.returns
returns g c = λ s h. removed_holds g.row.W c.self.inside.words c.args.s c.self.invariant c.requires s h ∙ ap (λ S. has S s && not (same s c.args.s)) c.self.view_is
