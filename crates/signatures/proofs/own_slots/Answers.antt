-- The slots below t are looked at.
use Rattle.std.proofs.Common.{true, false, sym, ◌∙◌, arith}
use Rattle.std.proofs.Math.Bool.{or-false}
use Rattle.finite.proofs.Laws.Below.{eq_same, ne_same}
use Rattle.bitset.specs.Set.{has}
use Rattle.signatures.proofs.Laws.Seen.{owned_start, owned_more, owned_done}
use Rattle.signatures.proofs.own_slots.Goals as goal
use Rattle.signatures.proofs.own_slots.Goals.{then-from-t, else-from-t}

pub loop-t-init : goal.loop-t-init
loop-t-init c = owned_start c.args.numbers.now _ c.empty-own.ensures

pub loop-t-preserved : goal.loop-t-preserved
loop-t-preserved c = elim c.if-from-t.branch [
  | then-from-t w ↦ owned_more c.args.numbers.now c.loop-t.own c.if-from-t.own c.loop-t.t true (eq_same (sym c.from.ensures ∙ w.if-from-t.true)) (rw w.own-is w.insert.ensures) c.loop-t.invariant
  | else-from-t w ↦ owned_more c.args.numbers.now c.loop-t.own c.if-from-t.own c.loop-t.t false (ne_same (λ e. w.if-from-t.false (c.from.ensures ∙ e))) (λ s _. rw w.own-is (sym (or-false (has c.loop-t.own s)))) c.loop-t.invariant
]

pub returns : goal.returns
returns c = owned_done c.args.numbers.now _ c.loop-t.t (omega arith) c.loop-t.invariant
