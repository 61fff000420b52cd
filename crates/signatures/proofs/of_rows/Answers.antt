-- The slots below s have their signatures, and the last row that was looked at has what was seen.
use Rattle.std.proofs.Common.{◌∙◌, ℕ, List, below_none, arith, sym, subst}
use Rattle.std.specs.Cmp.Lexicographic.{same_text}
use Rattle.std.proofs.lemmas.Bool.{not-false}
use Rattle.bitset.specs.Set.{Is}
use Rattle.partition.specs.Rows.{sees, Signed}
use Rattle.signatures.proofs.Laws.Seen.{sees_none, signed_more}
use Rattle.signatures.proofs.of_rows.Goals as goal
use Rattle.signatures.proofs.of_rows.Goals.{then-ne, else-ne}

pub loop-s-init : goal.loop-s-init
loop-s-init c = (below_none _, sees_none c.args.members.now.numbers c.empty-row.result c.empty-seen.result c.empty-row.ensures c.empty-seen.ensures)

pub loop-s-preserved : goal.loop-s-preserved
loop-s-preserved c = elim c.if-ne.branch [
  | then-ne w ↦ signed_more c.args.members.now.numbers c.if-ne.row c.if-ne.seen _ c.args.rows.now c.loop-s.signatures c.loop-s.s (omega arith) (omega arith) w.row-is
      (subst (λ (g : List ℕ). Is g (sees c.if-ne.row c.args.members.now.numbers)) (sym w.seen-is)
      (subst (λ (r : List ℕ). Is w.seen-seen.result (sees r c.args.members.now.numbers)) (sym w.row-is) w.seen-seen.ensures)) c.loop-s.invariant.0
  | else-ne w ↦ signed_more c.args.members.now.numbers c.if-ne.row c.if-ne.seen c.index-rows-s.result c.args.rows.now c.loop-s.signatures c.loop-s.s (omega arith) (omega arith)
      (w.row-is ∙ sym (same_text _ _ (sym (not-false _ (sym c.ne.ensures ∙ w.if-ne.false)))))
      (subst (λ (g : List ℕ). Is g (sees c.if-ne.row c.args.members.now.numbers)) (sym w.seen-is)
      (subst (λ (r : List ℕ). Is c.loop-s.seen (sees r c.args.members.now.numbers)) (sym w.row-is) c.loop-s.invariant.1)) c.loop-s.invariant.0
]

pub returns : goal.returns
unfolding Signed
returns c = λ s t i j. c.loop-s.invariant.0 s (omega arith) t j
