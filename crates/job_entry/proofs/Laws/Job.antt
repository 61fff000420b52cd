-- The answer of a job from items 1, 16, 2 and 18 and from its pieces.
use Rattle.std.specs.Prelude.{◌≡◌, Bool, List, ℕ, ◌≤◌, Result}
use Rattle.std.proofs.Common.{sym, ◌∙◌, ap}
use Rattle.verdict.specs.Verdict.{Verdict, Accepted, outcome, ◌then◌}
use Rattle.verdict.specs.declared.Refusal.{Refusal}
use Rattle.limits.specs.Limits.{highest_limit}
use Rattle.trailer.specs.Refusal.{edition_in, file_verdict, trailer_verdict}
use Rattle.trailer.specs.Pieces.{site_in, condition_in, sheet_in}
use Rattle.trailer.specs.Cuts.{Cut}
use Rattle.trailer.proofs.Laws.Pieces.{cut_verdict}
use Rattle.refusals.proofs.Laws.Items.{limit_out, then_out}
use Rattle.refusals.specs.Refusal.{limit_verdict}
use Rattle.job_run.specs.declared.Report.{Report}
use Rattle.job_run.specs.Buffers.{Buffers, Sized}
use Rattle.job_run.specs.Answer.{after_of, today_of, nodes_of, classes_of}
use Rattle.job_run.specs.Refusal.{pieces_verdict}
use Rattle.job_run.specs.Steps.{Ran}
use Rattle.job_entry.specs.Refusal.{buffers_verdict, job_verdict}
use Rattle.job_entry.specs.Answered.{JobAnswered}
use Rattle.job_entry.proofs.Laws.Refusal.{sized_out, job_then}

-- items 1, 16, 2 and 18, by what the trailer is read as
judged : (b : Buffers) (limit : ℕ) {file : List ℕ} {met : Bool} {d x y z : ℕ} {v : Verdict} → Cut file met d x y z
    → v ≡ buffers_verdict b then limit_verdict limit then file_verdict met d → buffers_verdict b then limit_verdict limit then trailer_verdict file ≡ v
judged b limit c j = rw (← (cut_verdict c)) (sym j)

module _ {limit : ℕ} {file : List ℕ} {b : Buffers} {met : Bool} {d x y z : ℕ} {v : Verdict} (c : Cut file met d x y z)
    (j : v ≡ buffers_verdict b then limit_verdict limit then file_verdict met d) where
  pub passed : v ≡ Accepted → (limit ≤ highest_limit) × Sized b
  passed e =
      let p = then_out (buffers_verdict b) _ (judged b limit c j ∙ e) in
      (limit_out limit (then_out (limit_verdict limit) (trailer_verdict file) p.1).0, sized_out b p.0)

  pub answered_ran : {site cond sheet : List ℕ} → site ≡ site_in file → cond ≡ condition_in file → sheet ≡ sheet_in file
      → {b' : Buffers} {r : Result Report Refusal} → Ran d v limit site cond sheet b b' r
      → JobAnswered limit file b b' (outcome r) (after_of r) (today_of r) (nodes_of r) (classes_of r)
  unfolding job_verdict
  answered_ran p q h w =
      let e = job_then b limit file ∙ ap (λ (u : Verdict). u then pieces_verdict (edition_in file) (site_in file) (condition_in file) (sheet_in file)) (judged b limit c j) in
      let k = rw (c.edition_is, p, q, h) at w.judged in
      record {
        after_made = k.after_made;
        today_made = k.today_made;
        makes = λ a. k.makes (sym e ∙ a);
        verdict = rw e k.verdict;
        left = rw (c.edition_is, p, q, h) at w.left;
      }
