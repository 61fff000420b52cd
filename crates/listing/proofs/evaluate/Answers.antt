-- The evaluator's contract for the last node, with no node known at the start.
use Rattle.std.proofs.Common.{refl, ◌≡◌, ◌-◌, ◌/◌, ◌∙◌, ap, ℕ, arith, length, length-take-le, replicate, take}
use Rattle.std.proofs.lemmas.Result.{err_from_is_err_and}
use Rattle.condition.proofs.Laws.Verdict.{accepted_sound}
use Rattle.limits.specs.Limits.{slots}
use Rattle.listing.proofs.Laws.Answer.{none-known, answer, answer_rounds}
use Rattle.listing.specs.State.{node_rounds}
use Rattle.listing_memo.specs.Memo.{valuation}
use Rattle.site.specs.Site.{site_of}
use Rattle.listing.proofs.evaluate.Goals as goal

pub slice_bounds-start-end : goal.slice_bounds-start-end
slice_bounds-start-end c = let s = accepted_sound c.args.table.now c.requires.table_value in
    omega (arith, length-take-le (length c.args.table.now / 6) c.args.free.now (omega (arith, s.few, c.requires.free_len.0)))

pub overflow_sub-top : goal.overflow_sub-top
overflow_sub-top c = let s = accepted_sound c.args.table.now c.requires.table_value in
    omega (arith, s.some)

pub invariant_of-question : goal.invariant_of-question
invariant_of-question c = let s = accepted_sound c.args.table.now c.requires.table_value in
    record { short = s.few; fits = s.fits; even = s.even_rule }

pub compute-made-requires-clause-evaluable : goal.compute-made-requires-clause-evaluable
compute-made-requires-clause-evaluable c = let s = accepted_sound c.args.table.now c.requires.table_value in
    let n : ℕ = length c.args.table.now / 6 in
    let l : length (take n c.args.free.now) ≡ n = length-take-le n c.args.free.now (omega (arith, s.few, c.requires.free_len.0)) in
    none-known s c.requires.free_len.1 (rw l at c.start.ensures) refl c.requires.set_len.1 c.requires.usual

pub compute-made-requires-clause-i_in_bounds : goal.compute-made-requires-clause-i_in_bounds
compute-made-requires-clause-i_in_bounds c = let s = accepted_sound c.args.table.now c.requires.table_value in
    omega (arith, s.some)

pub load-last-requires : goal.load-last-requires
load-last-requires c = let s = accepted_sound c.args.table.now c.requires.table_value in
    omega (arith, s.some, s.few, c.compute-made.ensures.work_size)

pub returns-in_err-rounds-clause-answered : goal.returns-in_err-rounds-clause-answered
returns-in_err-rounds-clause-answered c = let s = accepted_sound c.args.table.now c.requires.table_value in
    record {
      made = node_rounds c.args.site.now c.args.table.now (valuation c.start.new.self) (length c.args.table.now / 6 - 1);
      makes = answer_rounds s refl (site_of c.args.site.now) _;
      answer = rw (err_from_is_err_and c.from_residual.result c.from_residual.ensures.1).1 c.in_err-rounds.ensures.answer;
      size = c.requires.set_len.0;
    }

pub returns-in_err-rounds-clause-work_after : goal.returns-in_err-rounds-clause-work_after
returns-in_err-rounds-clause-work_after c = c.fill.ensures.after (λ y e. e) ∙ ap (λ (n : ℕ). replicate n 0) c.compute-made.ensures.work_size

pub returns-clause-answered : goal.returns-clause-answered
unfolding slots
returns-clause-answered c = let s = accepted_sound c.args.table.now c.requires.table_value in
    let size = c.write.auto.part ∙ c.requires.set_len.0 in
    let last = c.load-last.ensures in
    let v = c.in_ok-rounds.ensures.answer in
    record {
      made = _;
      makes = answer_rounds s refl (site_of c.args.site.now) _;
      answer = (
        v.number,
        v.within,
        rw c.write.ensures
            record {
              size = last.size;
              bytes = last.bytes;
              listed = answer c.load-last.result s refl v.done last.set;
              counted = c.len.ensures;
            },
      );
      size = size;
    }

pub returns-clause-work_after : goal.returns-clause-work_after
returns-clause-work_after c = c.fill.ensures.after (λ y e. e) ∙ ap (λ (n : ℕ). replicate n 0) c.compute-made.ensures.work_size
