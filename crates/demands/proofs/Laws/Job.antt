-- The demands on a job are met: what it leaves is what the entry points leave one by one, and theirs are.
use Rattle.std.specs.Prelude.{◌≡◌, List, ℕ, ◌≤◌, length}
use Rattle.std.proofs.Common.{sym, ◌∙◌, ap, arith}
use Rattle.verdict.specs.Verdict.{Verdict, Accepted, reason_of, where_of}
use Rattle.semantics.specs.Edit as edits
use Rattle.site.specs.Site.{site_of}
use Rattle.condition.specs.Bytes.{table_of}
use Rattle.sheet.specs.Bytes.{edits_of}
use Rattle.rewriting.specs.Rewriting.{TableAfter, rewritten}
use Rattle.rewriting.proofs.Laws.Accepted.{taken_table}
use Rattle.trailer.specs.Refusal.{edition_in}
use Rattle.trailer.specs.Pieces.{site_in, condition_in, sheet_in}
use Rattle.trailer.proofs.Laws.Verdict.{accepted_known}
use Rattle.refusals.specs.Refusal.{rounds_verdict}
use Rattle.refusals.proofs.Laws.Items.{then_out, rounds_in, rounds_out, numbered}
use Rattle.listing.specs.Listed.{found_of}
use Rattle.list_entry.specs.Listing.{SetAfter}
use Rattle.apply_entry.specs.Applying.{SiteAfter}
use Rattle.job_run.specs.Refusal.{lists_verdict}
use Rattle.job_run.specs.Job.{JobMakes, JobAfter}
use Rattle.job_entry.specs.Refusal.{job_inputs, job_verdict}
use Rattle.job_entry.proofs.Laws.Refusal.{job_accepts}
use Rattle.demands.specs.Demands.{Runnable, ApplyCall, ClassCall, Demand3}
use Rattle.demands.specs.Job.{JobCall, job_table, RunnableFile, RoundsFit, JobAgrees, DemandJob}
use Rattle.demands.proofs.Laws.Accepted.{fits_short, short_fits, same-makes, apply_accepted, classes_accepted, job_accepted}
use Rattle.demands.proofs.Laws.Demands.{left_accepted, lists_agree, demand_3}

module _ {file : List ℕ} (c : JobCall file) where
  -- the verdict of the call
  abbrev pub due_of : Verdict
  due_of = job_verdict c.lent c.limit file c.returned.after_made c.returned.today_made

  -- ---- refused only where an item is met

  module _ (r : RunnableFile file) where
    job_inputs_lem : job_inputs c.lent c.limit file ≡ Accepted
    job_inputs_lem =
        job_accepted c.lent c.limit file
        (record {
          sized = c.sized;
          limit_fits = c.limit_fits;
          trailer_accepted = r.trailer_accepted;
          pieces =
              record {
                site_accepted = r.pieces.going.site_accepted;
                cond_accepted = r.pieces.table_accepted;
                sheet_accepted = r.pieces.going.sheet_accepted;
                goes = r.pieces.going.goes_through;
                short = fits_short (edition_in file) (condition_in file) (sheet_in file) r.pieces.table_accepted (omega (arith, r.pieces.table_fits));
              };
        })

    -- where its lists make a and t rounds, nothing but item 15 is left to test
    pub job_due : (a t : ℕ) → JobMakes (edition_in file) (site_in file) (condition_in file) (sheet_in file) a t → due_of ≡ lists_verdict c.limit a t
    unfolding job_verdict
    job_due a t m =
        let k = c.returned.makes job_inputs_lem in
        rw (job_inputs_lem, same-makes _ _ _ _ k.after m.after, same-makes _ _ _ _ k.today m.today)

    runs : RoundsFit c.limit file → c.reason ≡ 0
    runs f =
        let a : f.after ≤ c.limit = omega (arith, f.after_fits) in
        let t : f.today ≤ c.limit = omega (arith, f.today_fits) in
        let fit : lists_verdict c.limit f.after f.today ≡ Accepted = rw (rounds_in a, rounds_in t) in
        c.returned.returned.reason_is ∙ ap reason_of (job_due f.after f.today f.makes ∙ fit)

  -- a file whose job meets no item but 15
  pub runnable_inputs : job_inputs c.lent c.limit file ≡ Accepted → RunnableFile file
  runnable_inputs v =
      let a = job_accepts c.lent c.limit file v in
      record {
        trailer_accepted = a.trailer_accepted;
        pieces =
            record {
              going =
                  record {
                    edition_accepted = accepted_known file a.trailer_accepted;
                    site_accepted = a.pieces.site_accepted;
                    sheet_accepted = a.pieces.sheet_accepted;
                    goes_through = a.pieces.goes;
                  };
              table_accepted = a.pieces.cond_accepted;
              table_fits = omega (arith, short_fits (edition_in file) (condition_in file) (sheet_in file) a.pieces.cond_accepted a.pieces.short);
            };
      }

  module _ (e : c.reason ≡ 0) where
    accepted : due_of ≡ Accepted
    accepted = (numbered _).accepts (sym c.returned.returned.reason_is ∙ e)

    parts : (job_inputs c.lent c.limit file ≡ Accepted)
        × (lists_verdict c.limit c.returned.after_made c.returned.today_made ≡ Accepted)
    unfolding job_verdict
    parts = then_out (job_inputs c.lent c.limit file) _ accepted

    runnable : RunnableFile file
    runnable = runnable_inputs parts.0

    fit : RoundsFit c.limit file
    fit =
        let p = then_out (rounds_verdict c.limit c.returned.after_made) _ parts.1 in
        record {
          after = c.returned.after_made;
          today = c.returned.today_made;
          makes = c.returned.makes parts.0;
          after_fits = rounds_out c.limit c.returned.after_made p.0;
          today_fits = rounds_out c.limit c.returned.today_made p.1;
        }

    left : JobAfter (edition_in file) Accepted (site_in file) (condition_in file) (sheet_in file) c.lent c.lent' (found_of c.after c.after_rounds)
        (found_of c.today c.today_rounds) c.nodes c.classes
    left = rw accepted at c.returned.returned.left

    effects : site_of c.lent'.changed ≡ edits.sheet (edits_of (edition_in file) (sheet_in file)) (site_of (site_in file))
    unfolding SiteAfter
    effects = left.site_after.effects

    is_rewritten : table_of (job_table c) ≡ rewritten (edition_in file) (condition_in file) (sheet_in file)
    unfolding TableAfter
    is_rewritten = let t = left.table_after in taken_table (rewritten (edition_in file) (condition_in file) (sheet_in file)) _ c.lent'.table c.nodes t.0 t.1

    -- the rounds that are returned are those that its lists make
    pub job_makes : JobMakes (edition_in file) (site_in file) (condition_in file) (sheet_in file) c.after_rounds c.today_rounds
    unfolding SetAfter
    job_makes = record { after = rw effects at left.list_after.1; today = rw is_rewritten at left.list_today.1 }

    -- ---- two calls, each on the job's own buffers

    pieces : Runnable (edition_in file) (site_in file) (condition_in file) (sheet_in file)
    pieces = runnable.pieces

    abbrev apply_call : ApplyCall (edition_in file) (site_in file) (sheet_in file)
    apply_call =
        let v =
        apply_accepted (edition_in file) (length c.lent.changed) (site_in file) (sheet_in file)
        (record {
          result_size = c.sized.changed_size;
          edition_accepted = pieces.going.edition_accepted;
          site_accepted = pieces.going.site_accepted;
          sheet_accepted = pieces.going.sheet_accepted;
          goes = pieces.going.goes_through;
        }) in
        record {
          result = c.lent.changed;
          result' = c.lent'.changed;
          reason = 0;
          fault = 0;
          result_size = c.sized.changed_size;
          returned = record { reason_is = sym (ap reason_of v); fault_is = sym (ap where_of v); left = rw v left.site_after };
        }

    abbrev class_call : ClassCall apply_call.result'
    class_call =
        let v =
        classes_accepted (length c.lent.classes) apply_call.result'
        (record { classes_size = c.sized.classes_size; site_accepted = left_accepted pieces.going apply_call }) in
        record {
          classes = c.lent.classes;
          classes' = c.lent'.classes;
          reason = 0;
          fault = 0;
          count = c.classes;
          classes_size = c.sized.classes_size;
          returned = record { reason_is = sym (ap reason_of v); fault_is = sym (ap where_of v); left = rw v left.classes_after };
        }

    -- ---- what they agree on, the job does

    agrees : JobAgrees c
    unfolding SetAfter Demand3
    agrees =
        record {
          lists = lists_agree pieces is_rewritten effects left.list_today.0 left.list_after.0;
          numbers = (demand_3 (edition_in file) (site_in file) (sheet_in file) pieces.going apply_call class_call).same_numbers;
        }

pub demand_job : DemandJob
unfolding DemandJob
demand_job file c = ((λ e. (runnable c e, fit c e), λ p. runs c p.0 p.1), agrees c)
