use Rattle.std.proofs.Common.{sym, ◌∙◌, ap, ◌%◌, arith}
use Rattle.bitset.specs.Set.{has}
use Rattle.bitset.proofs.Laws.Sets.{masked, has_at}
use Rattle.bitset.proofs.set.BitSet.contains.Goals as goal

pub returns : goal.returns
returns g c =
    masked _ (c.args.s % 64)
    ∙ sym (has_at c.self.inside.words c.args.s c.self.invariant.word_fits (omega (arith, c.self.invariant.size)))
    ∙ ap (λ S. has S c.args.s) c.self.view_is
