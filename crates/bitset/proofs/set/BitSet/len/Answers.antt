-- n is the count of the numbers of the words below the index.
use Rattle.std.proofs.Common.{refl, ◌∙◌, ap, ◌+◌, ◌*◌, arith}
use Rattle.finite.specs.Tests.{count}
use Rattle.bitset.specs.Set.{has}
use Rattle.bitset.proofs.Laws.Words.{count_word, count_fits}
use Rattle.bitset.proofs.Laws.Sets.{shown_small, shown_length, shown_word}
use Rattle.bitset.proofs.set.BitSet.len.Goals as goal

pub loop-w-init : goal.loop-w-init
unfolding count
loop-w-init g c = refl

pub overflow_add-n : goal.overflow_add-n
overflow_add-n g c = record {
  fits =
      count_fits _ (8 * c.loop-w.w-index) _ (shown_small _ _ c.self.invariant c.self.view_is) (omega (arith, shown_length _ _ c.self.invariant c.self.view_is))
      c.loop-w.invariant (shown_word _ _ c.self.invariant c.self.view_is c.loop-w.w-index (omega arith)) (omega (arith, c.self.invariant.small));
}

pub loop-w-preserved : goal.loop-w-preserved
loop-w-preserved g c =
    count_word _ (8 * c.loop-w.w-index) _ (shown_small _ _ c.self.invariant c.self.view_is) (omega (arith, shown_length _ _ c.self.invariant c.self.view_is))
    c.loop-w.invariant (shown_word _ _ c.self.invariant c.self.view_is c.loop-w.w-index (omega arith)) (8 * (c.loop-w.w-index + 1)) (omega arith)

pub returns : goal.returns
returns g c = c.loop-w.invariant ∙ ap (λ m. count m (has c.args.self.now)) (omega arith)
