-- The evaluator, a cycle of calls: the law of each case, over what its calls leave.
use Rattle.std.proofs.Common.{refl, true, not, inl, inr, sym, ◌∙◌, ap, ap₂, ◌+◌, ℕ, arith, subst}
use Rattle.std.proofs.lemmas.Result.{err_from_is_err_and}
use Rattle.bitset.specs.Set.{has}
use Rattle.condition.proofs.Laws.Fits.{node_fits_lem}
use Rattle.condition.proofs.Laws.Limits.{param_lower}
use Rattle.condition.specs.Bytes.{node_at}
use Rattle.listing.proofs.Laws.Counting.{within_less}
use Rattle.listing.proofs.Laws.Counts.{end_rounds, unary_rounds, binary_rounds, loop-rounds, loop_rests}
use Rattle.listing.proofs.Laws.Kinds.{loop_variable}
use Rattle.listing.proofs.Laws.Memo.{moved, finish, kept, leaf_done, second_over, both_number, both_within, second_done, child}
use Rattle.listing.proofs.Laws.Rounds.{Ended, on, same_bytes, other_bytes, rounds-none, assigned, inside_over, sum_over, rounds_more, rounds_number, rounds_done, restored}
use Rattle.listing.specs.Counting.{Within, counted}
use Rattle.listing.specs.State.{node_rounds}
use Rattle.listing_memo.proofs.Laws.Memo.{valuation_is}
use Rattle.listing_memo.specs.Memo.{valuation}
use Rattle.listing_sets.proofs.Laws.Nodes.{is_unary, is_binary, is_loop}
use Rattle.listing_sets.proofs.Laws.Offsets.{slot_in}
use Rattle.listing_sets.specs.Nodes.{node_makes}
use Rattle.site.specs.Site.{site_of}
use Rattle.listing.proofs.+binary_compute_eval_fixpoint_fixpoint_from_unary.Goals as goal
use Rattle.listing.proofs.+binary_compute_eval_fixpoint_fixpoint_from_unary.Goals.{compute-in_default-via-then-this-lt5, compute-in_default-via-else-this-lt5+else-this-lt8+else-this-lt10+else-this-lt12, fixpoint_from-else-loop-round-test, fixpoint_from-then-loop-round-test+in_ok-inside+in_ok-total+then-rests}

pub binary-returns-in_err-made_left-clause-answer : goal.binary-returns-in_err-made_left-clause-answer
binary-returns-in_err-made_left-clause-answer t c =
    let M = site_of c.args.question.now.site.now in
    let ρ = valuation c.args.memo.now in
    let rounds = node_rounds c.args.question.now.site.now c.args.question.now.table.now ρ in
    let sum = binary_rounds c.args.question.now.table.now c.args.question.now.fits c.args.i c.requires.i_in_bounds M ρ c.requires.or_no_bound.0 c.requires.or_no_bound.1 in
    let left = ap rounds c.left_child-left.ensures.0 in
    rw (err_from_is_err_and c.from_residual.result c.from_residual.ensures.1).1
    (λ w. c.in_err-made_left.ensures.answer (within_less c.args.limit (rounds c.left_child-left.result) (rounds c.args.i) (omega (arith, sum, left)) w))

pub binary-returns-in_err-made_right-clause-answer : goal.binary-returns-in_err-made_right-clause-answer
binary-returns-in_err-made_right-clause-answer t c =
    let M = site_of c.args.question.now.site.now in
    let ρ = valuation c.args.memo.now in
    let rounds = node_rounds c.args.question.now.site.now c.args.question.now.table.now ρ in
    let sum = binary_rounds c.args.question.now.table.now c.args.question.now.fits c.args.i c.requires.i_in_bounds M ρ c.requires.or_no_bound.0 c.requires.or_no_bound.1 in
    let left = ap rounds c.left_child-left.ensures.0 in
    let right = ap rounds c.right_child-right.ensures.0 in
    rw (err_from_is_err_and c.from_residual-in_err-made_right.result c.from_residual-in_err-made_right.ensures.1).1
    (λ w. second_over c.in_ok-made_left.ensures.answer c.right_child-right.result (rw c.remaining.ensures at c.in_err-made_right.ensures.answer)
    (subst (Within c.args.limit) (sum ∙ ap₂ ◌+◌ (sym left) (sym right)) w))

pub binary-returns-clause-answer : goal.binary-returns-clause-answer
binary-returns-clause-answer t c =
    let M = site_of c.args.question.now.site.now in
    let ρ = valuation c.args.memo.now in
    let rounds = node_rounds c.args.question.now.site.now c.args.question.now.table.now ρ in
    let sum = binary_rounds c.args.question.now.table.now c.args.question.now.fits c.args.i c.requires.i_in_bounds M ρ c.requires.or_no_bound.0 c.requires.or_no_bound.1 in
    let left = ap rounds c.left_child-left.ensures.0 in
    let right = ap rounds c.right_child-right.ensures.0 in
    let P = has c.load-left_set.result in
    let Q = has c.load-right_set.result in
    let a = c.in_ok-made_left.ensures.answer in
    let b = rw c.remaining.ensures at c.in_ok-made_right.ensures.answer in
    let all = sum ∙ ap₂ ◌+◌ (sym left) (sym right) in
    let d = second_done a b in
    record {
      number = both_number a b ∙ ap (counted c.args.limit) (sym all);
      within = subst (Within c.args.limit) (sym all) (both_within a b);
      done = finish {P = node_makes M (node_at c.args.question.now.table.now c.args.i) P Q} d.right d.values (c.put_binary.ensures M)
          (is_binary c.args.question.now.table.now c.args.question.now.fits c.args.i c.requires.i_in_bounds M ρ P Q
          (child a.done c.load-left_set.ensures.set c.left_child-left.ensures.0) c.requires.or_no_bound.0 c.requires.or_no_bound.1 (child d c.load-right_set.ensures.set c.right_child-right.ensures.0));
    }

pub compute-returns-in_default-clause-answer : goal.compute-returns-in_default-clause-answer
compute-returns-in_default-clause-answer t c = leaf_done c.requires.evaluable c.leaf.ensures.set_written
    (end_rounds c.args.question.now.table.now c.args.question.now.fits c.args.i c.requires.i_in_bounds (site_of c.args.question.now.site.now) (valuation c.args.memo.now) (λ h l. elim c.in_default.branch [
      | compute-in_default-via-then-this-lt5 w ↦ omega (arith, c.kind.ensures)
      | compute-in_default-via-else-this-lt5+else-this-lt8+else-this-lt10+else-this-lt12 w ↦ omega (arith, c.kind.ensures)
    ])) c.leaf.ensures.value

pub eval-returns-clause-answer : goal.eval-returns-clause-answer
eval-returns-clause-answer t c = kept c.args.question.now.short c.requires.i_in_bounds c.in_ok-made.ensures.answer c.keep.ensures

pub fixpoint_from-at-variable-requires : goal.fixpoint_from-at-variable-requires
fixpoint_from-at-variable-requires t c =
    let low = param_lower c.args.i (node_at c.args.question.now.table.now c.args.i) (node_fits_lem c.args.question.now.table.now c.args.question.now.fits c.args.i c.requires.i_in_bounds) in
    (omega arith, omega (arith, c.param.ensures, loop_variable c.requires.mu_no_bound low))

pub fixpoint_from-loop-round-init : goal.fixpoint_from-loop-round-init
fixpoint_from-loop-round-init t c = (rounds-none c.requires.evaluable c.requires.has, c.requires.whole.0, c.requires.whole.1)

pub fixpoint_from-eval-requires : goal.fixpoint_from-eval-requires
fixpoint_from-eval-requires t c = (
  omega (arith, c.left_child-body.ensures),
  (rw c.remaining.ensures (assigned c.loop-round.invariant.0 refl c.assign.ensures c.args.question.now.short c.requires.evaluable c.at-variable.result.within), omega (arith, c.left_child-body.ensures)),
)

pub fixpoint_from-returns-in_err-inside-clause-answer : goal.fixpoint_from-returns-in_err-inside-clause-answer
fixpoint_from-returns-in_err-inside-clause-answer t c =
    let own = loop-rounds c.args.question.now.table.now c.args.question.now.fits c.args.i c.requires.i_in_bounds (site_of c.args.question.now.site.now) (valuation c.args.memo.now) c.at-variable.result.number c.left_child-body.result (c.at-variable.ensures ∙ c.param.ensures) c.left_child-body.ensures.0 c.requires.mu_no_bound.0 c.requires.mu_no_bound.1 in
    rw (err_from_is_err_and c.from_residual.result c.from_residual.ensures.1).1
    (λ w. inside_over c.loop-round.invariant.0 refl c.assign.ensures (omega (arith, c.loop-round-test.true)) (rw c.remaining.ensures at c.in_err-inside.ensures.answer)
    (subst (Within c.args.limit) own w))

pub fixpoint_from-returns-in_err-total-clause-answer : goal.fixpoint_from-returns-in_err-total-clause-answer
fixpoint_from-returns-in_err-total-clause-answer t c =
    let own = loop-rounds c.args.question.now.table.now c.args.question.now.fits c.args.i c.requires.i_in_bounds (site_of c.args.question.now.site.now) (valuation c.args.memo.now) c.at-variable.result.number c.left_child-body.result (c.at-variable.ensures ∙ c.param.ensures) c.left_child-body.ensures.0 c.requires.mu_no_bound.0 c.requires.mu_no_bound.1 in
    rw (err_from_is_err_and c.from_residual-in_err-total.result c.from_residual-in_err-total.ensures.1).1
    (λ w. sum_over c.loop-round.invariant.0 refl c.assign.ensures (omega (arith, c.loop-round-test.true)) (rw c.remaining.ensures at c.in_ok-inside.ensures.answer)
    c.in_err-total.ensures (subst (Within c.args.limit) own w))

pub fixpoint_from-loop-round-preserved : goal.fixpoint_from-loop-round-preserved
fixpoint_from-loop-round-preserved t c =
    let now = c.loop-round.invariant in
    let next = c.load-next.ensures in (
      on (rounds_more now.0 refl c.assign.ensures (omega (arith, c.loop-round-test.true)) (rw c.remaining.ensures at c.in_ok-inside.ensures.answer)
          c.in_ok-inside.ensures.work_size c.in_ok-total.ensures.0 c.in_ok-total.ensures.1 next.set (same_bytes _ _ c.eq-rests.ensures) (other_bytes _ _ c.eq-rests.ensures next.size next.bytes now.1 now.2))
          (ap not c.if-rests.false),
      next.size,
      next.bytes,
    )

pub fixpoint_from-returns-clause-answer : goal.fixpoint_from-returns-clause-answer
fixpoint_from-returns-clause-answer t c =
    let M = site_of c.args.question.now.site.now in
    let ρ = valuation c.args.memo.now in
    let x : ℕ = c.at-variable.result.number in
    let b : ℕ = c.left_child-body.result in
    let now = c.loop-round.invariant in
    let ended : Ended c.args.question.now.site.now c.args.question.now.table.now c.args.memo.now c.loop-round-test.memo c.loop-round-test.work c.args.limit (node_at c.args.question.now.table.now c.args.i).kind x b
    c.loop-round-test.set c.loop-round-test.total =
    elim c.loop-round-test.branch [
      | fixpoint_from-else-loop-round-test w ↦ rw (w.memo-is, w.work-is, w.set-is, w.total-is) (record { rounds = _; moved = true; reached = now.0; out = inr (omega arith) })
      | fixpoint_from-then-loop-round-test+in_ok-inside+in_ok-total+then-rests w ↦ rw (w.memo-is, w.work-is, w.set-is, w.total-is) (record {
        rounds = _;
        moved = _;
        reached = rounds_more now.0 refl w.assign.ensures (omega (arith, w.loop-round-test.true)) (rw w.remaining.ensures at w.in_ok-inside.ensures.answer)
            w.in_ok-inside.ensures.work_size w.in_ok-total.ensures.0 w.in_ok-total.ensures.1 w.load-next.ensures.set (same_bytes _ _ w.eq-rests.ensures)
            (other_bytes _ _ w.eq-rests.ensures w.load-next.ensures.size w.load-next.ensures.bytes now.1 now.2);
        out = inl (ap not w.if-rests.true);
      })
    ] in
    let own = loop-rounds c.args.question.now.table.now c.args.question.now.fits c.args.i c.requires.i_in_bounds M ρ x b (c.at-variable.ensures ∙ c.param.ensures) c.left_child-body.ensures.0 c.requires.mu_no_bound.0 c.requires.mu_no_bound.1 in
    let rests = loop_rests c.args.question.now.table.now c.args.question.now.fits c.args.i c.requires.i_in_bounds M ρ x b (c.at-variable.ensures ∙ c.param.ensures) c.left_child-body.ensures.0 c.requires.mu_no_bound.0 c.requires.mu_no_bound.1 c.args.question.now.even in
    let all = rounds_number ended.reached ended.out ∙ sym own in
    record {
      number = ended.reached.summed ∙ ap (counted c.args.limit) all;
      within = subst (Within c.args.limit) all ended.reached.within;
      done = finish (moved c.args.question.now.short c.at-variable.result.within ended.reached.right c.assign-2.ensures)
          (restored ended.reached c.assign-2.ensures (λ s l. c.variable-old.ensures s (slot_in l) ∙ sym (valuation_is c.args.memo.now x c.at-variable.result.within s)))
          c.store.ensures
          (λ s l. rounds_done ended.reached ended.out rests s l
          ∙ sym (is_loop c.args.question.now.table.now c.args.question.now.fits c.args.i c.requires.i_in_bounds M ρ x b (c.at-variable.ensures ∙ c.param.ensures) c.left_child-body.ensures.0 c.requires.mu_no_bound.0 c.requires.mu_no_bound.1 s l));
    }

pub unary-returns-in_err-made-clause-answer : goal.unary-returns-in_err-made-clause-answer
unary-returns-in_err-made-clause-answer t c =
    let M = site_of c.args.question.now.site.now in
    let ρ = valuation c.args.memo.now in
    let all = unary_rounds c.args.question.now.table.now c.args.question.now.fits c.args.i c.requires.i_in_bounds M ρ c.requires.fact ∙ sym (ap (node_rounds c.args.question.now.site.now c.args.question.now.table.now ρ) c.left_child-child.ensures.0) in
    rw (err_from_is_err_and c.from_residual.result c.from_residual.ensures.1).1 (λ w. c.in_err-made.ensures.answer (subst (Within c.args.limit) all w))

pub unary-returns-clause-answer : goal.unary-returns-clause-answer
unary-returns-clause-answer t c =
    let M = site_of c.args.question.now.site.now in
    let ρ = valuation c.args.memo.now in
    let P = has c.load-set.result in
    let all = unary_rounds c.args.question.now.table.now c.args.question.now.fits c.args.i c.requires.i_in_bounds M ρ c.requires.fact ∙ sym (ap (node_rounds c.args.question.now.site.now c.args.question.now.table.now ρ) c.left_child-child.ensures.0) in
    let v = c.in_ok-made.ensures.answer in
    record {
      number = v.number ∙ ap (counted c.args.limit) (sym all);
      within = subst (Within c.args.limit) (sym all) v.within;
      done = finish {P = node_makes M (node_at c.args.question.now.table.now c.args.i) P P} v.done.right v.done.values c.put_unary.ensures
          (is_unary c.args.question.now.table.now c.args.question.now.fits c.args.i c.requires.i_in_bounds M ρ P P (child v.done c.load-set.ensures.set c.left_child-child.ensures.0) c.requires.fact);
    }
