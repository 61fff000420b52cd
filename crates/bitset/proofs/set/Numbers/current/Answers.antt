-- A word that is begun changes no number; where none is left to begin, no number is left.
use Rattle.std.proofs.Common.{◌≡◌, ◌∙◌, sym, ap, ap₂, subst, false, ◌*◌, ◌+◌, arith}
use Rattle.finite.specs.Tests.{any}
use Rattle.finite.proofs.Laws.Below.{any_cong}
use Rattle.bitset.specs.Set.{has}
use Rattle.bitset.specs.Numbers.{numbers_left}
use Rattle.bitset.proofs.Laws.Sets.{shown_small, shown_word}
use Rattle.bitset.proofs.Laws.Numbers.{begun_more, none_left}
use Rattle.bitset.proofs.set.Numbers.current.Goals as goal

pub loop-k-init : goal.loop-k-init
loop-k-init g c s h =
    ap₂ (λ b w. has (numbers_left c.args.self.now.set b w) s) (ap (λ n. n.begun) c.self.view_is) (sym c.if-self-ne0.false ∙ ap (λ n. n.word) c.self.view_is)

pub returns-then-word-ne0-clause-same : goal.returns-then-word-ne0-clause-same
returns-then-word-ne0-clause-same g c s h =
    let shown = ap (λ n. n.set) c.self.view_is in
    let small = shown_small _ _ c.self.invariant shown in
    let here = shown_word _ _ c.self.invariant shown c.loop-k.k (omega arith) in
    begun_more c.args.self.now.set g.row.W c.loop-k.k _ small (c.self.invariant.word_fits c.loop-k.k) here s h ∙ c.loop-k.invariant s h

pub loop-k-preserved : goal.loop-k-preserved
loop-k-preserved g c s h =
    let shown = ap (λ n. n.set) c.self.view_is in
    let small = shown_small _ _ c.self.invariant shown in
    let here = shown_word _ _ c.self.invariant shown c.loop-k.k (omega arith) in
    ap (λ w. has (numbers_left c.args.self.now.set (c.loop-k.k + 1) w) s) (sym c.if-word-ne0.false)
    ∙ begun_more c.args.self.now.set g.row.W c.loop-k.k _ small (c.self.invariant.word_fits c.loop-k.k) here s h
    ∙ c.loop-k.invariant s h

pub returns-clause-none : goal.returns-clause-none
returns-clause-none g c _ =
    sym (any_cong (64 * g.row.W) _ _ (λ s h. c.loop-k.invariant s h))
    ∙ subst (λ k. any (64 * g.row.W) (has (numbers_left c.args.self.now.set k 0)) ≡ false) (omega arith) (none_left c.args.self.now.set g.row.W)
