-- The slots below s are put into rows.
use Rattle.std.proofs.Common.{List, ℕ, refl, sym, ◌∙◌, ap, true, false, get_or, arith}
use Rattle.std.proofs.Math.Bool.{or-false}
use Rattle.bitset.specs.Set.{has}
use Rattle.partition.proofs.Laws.Gains.{row_at}
use Rattle.neighbours.proofs.Laws.Steps.{sourced_start, sourced_more, sourced_done, others_taken}
use Rattle.neighbours.proofs.put_sources.Goals as goal
use Rattle.neighbours.proofs.put_sources.Goals.{then-len-half, else-len-half}

pub loop-s-init : goal.loop-s-init
loop-s-init c = sourced_start c.args.rows.now c.args.reached _ _ c.empty-dense.ensures c.requires.empty

pub loop-s-preserved : goal.loop-s-preserved
loop-s-preserved c = let R = c.args.rows.now in let n = c.loop-s.s in let D = c.loop-s.dense in let A = get_or R n c.index-rows-s.result in
    elim c.if-len-half.branch [
      | then-len-half w ↦ sourced_more R c.args.reached n D _ w.sub.result c.loop-s.back _ true c.index-rows-s.result (omega arith) (omega arith) (rw w.dense-is w.insert.ensures)
          (others_taken A c.args.reached w.sub.result (λ s i e. c.requires.reached n s (omega arith) i (sym (ap (λ (x : List ℕ). has x s) (row_at R n c.index-rows-s.result (omega arith))) ∙ e)) w.sub.ensures)
          (rw w.back-is w.put.ensures) c.loop-s.invariant
      | else-len-half w ↦ sourced_more R c.args.reached n D _ A c.loop-s.back _ false c.index-rows-s.result (omega arith) (omega arith)
          (λ t _. rw w.dense-is (sym (or-false (has D t)))) (λ s _. refl) (rw w.back-is w.put-else-len-half.ensures) c.loop-s.invariant
    ]

pub returns : goal.returns
returns c = sourced_done c.args.rows.now c.args.reached c.loop-s.s _ _ (omega arith) c.loop-s.invariant
