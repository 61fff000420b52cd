-- No number is in the words below k.
use Rattle.std.proofs.Common.{◌≡◌, subst, false, ◌+◌, ◌*◌, arith}
use Rattle.finite.specs.Tests.{any}
use Rattle.finite.proofs.Laws.First.{none_start}
use Rattle.bitset.specs.Set.{has}
use Rattle.bitset.proofs.Laws.Words.{none-word, lowest_fits, lowest_word}
use Rattle.bitset.proofs.Laws.Sets.{shown_small, shown_word}
use Rattle.bitset.proofs.set.BitSet.lowest.Goals as goal

pub loop-k-init : goal.loop-k-init
loop-k-init g c = none_start _

pub returns-then-w-ne0-clause-some : goal.returns-then-w-ne0-clause-some
returns-then-w-ne0-clause-some g c =
    let b = shown_small _ _ c.self.invariant c.self.view_is in
    let here = shown_word _ _ c.self.invariant c.self.view_is c.loop-k.k (omega arith) in
    let small = lowest_fits _ (8 * c.loop-k.k) b here c.loop-k.invariant c.if-w-ne0.true in
    (omega (arith, small), lowest_word _ (8 * c.loop-k.k) b here c.loop-k.invariant c.if-w-ne0.true (64 * g.row.W) (omega arith) _ (omega arith))

pub loop-k-preserved : goal.loop-k-preserved
loop-k-preserved g c =
    none-word _ (8 * c.loop-k.k) (shown_small _ _ c.self.invariant c.self.view_is) (shown_word _ _ c.self.invariant c.self.view_is c.loop-k.k (omega arith))
    c.loop-k.invariant c.if-w-ne0.false (8 * (c.loop-k.k + 1)) (omega arith)

pub returns-clause-none : goal.returns-clause-none
returns-clause-none g c = λ _. subst (λ n. any n (has c.args.self.now) ≡ false) (omega arith) c.loop-k.invariant
