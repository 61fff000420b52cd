-- A call whose inputs meet an item is refused with it.
use Rattle.std.specs.Prelude.{◌≡◌, refl, List, ℕ, length, replicate, Err}
use Rattle.std.proofs.Common.{◌∙◌, ap, arith}
use Rattle.verdict.specs.Verdict.{Verdict, number_of, fault_of, reason_of, where_of}
use Rattle.verdict.specs.declared.Refusal.{Refusal}
use Rattle.verdict.proofs.Laws.{number_within}
use Rattle.site.specs.Refusal.{site_verdict}
use Rattle.refusals.proofs.Laws.Items.{buffer_in, limit_in}
use Rattle.listing.specs.Listed.{found_of}
use Rattle.list_entry.specs.Refusal.{list_inputs, list_verdict}
use Rattle.list_entry.specs.Listing.{SetAfter}
use Rattle.apply_entry.specs.Refusal.{apply_verdict}
use Rattle.apply_entry.specs.Applying.{SiteAfter}
use Rattle.rewrite_entry.specs.Refusal.{rewrite_verdict}
use Rattle.rewriting.specs.Rewriting.{TableAfter}
use Rattle.classes_entry.specs.Refusal.{classes_verdict}
use Rattle.classes_entry.specs.Classing.{ClassesAfter}
use Rattle.job_run.specs.Refusal.{pieces_verdict}
use Rattle.job_entry.specs.Refusal.{job_inputs, job_verdict}
use Rattle.job_entry.proofs.Laws.Refusal.{sized_in}
use Rattle.desk.specs.Returned.{Returned}
use Rattle.demands.specs.Demand1.{Demand1Job}
use Rattle.demands.specs.Demands.{ApplyCall, RewriteCall, ListCall, ClassCall}
use Rattle.demands.specs.Job.{JobCall}
use Rattle.demands.proofs.Laws.Demand1.{demand_1}
use Rattle.sample_bytes.specs.Refused.{RefusedWith, NoAnswer, NotApplied, NotRewritten, NotListed, NotClassed, NotRun, SiteRefused}

refused_with : {due : Verdict} {After : Verdict → Type 0} {reason fault : ℕ} {r : Refusal} → due ≡ Err r → Returned due After reason fault
    → RefusedWith reason fault (number_of r) (fault_of r)
refused_with v r = record { reason_is = r.reason_is ∙ ap reason_of v; fault_is = r.fault_is ∙ ap where_of v }

no_answer : {due : Verdict} {After : Verdict → Type 0} {reason fault count len size : ℕ} {r : Refusal} {buffer' : List ℕ} → due ≡ Err r
    → Returned due After reason fault → count ≡ 0 → buffer' ≡ replicate len 0 → len ≡ size
    → NoAnswer reason fault count size buffer' (number_of r) (fault_of r)
no_answer v r n z l = record { refused = refused_with v r; count_none = n; zeros = z ∙ ap (λ (n : ℕ). replicate n 0) l }

pub not_applied : {edition : ℕ} {site sheet : List ℕ} (call : ApplyCall edition site sheet) (r : Refusal)
    → apply_verdict edition (length call.result) site sheet ≡ Err r → NotApplied call (number_of r) (fault_of r)
unfolding SiteAfter
not_applied call r v = no_answer v call.returned refl (rw v at call.returned.left) call.result_size

pub not-rewritten : {edition : ℕ} {table sheet : List ℕ} (call : RewriteCall edition table sheet) (r : Refusal)
    → rewrite_verdict edition (length call.result) table sheet ≡ Err r → NotRewritten call (number_of r) (fault_of r)
unfolding TableAfter
not-rewritten call r v = let z = rw v at call.returned.left in no_answer v call.returned z.0 z.1 call.result_size

pub not_listed : {site table : List ℕ} (call : ListCall site table) (r : Refusal)
    → list_verdict (length call.set) (length call.work) call.limit site table call.returned.made ≡ Err r → NotListed call (number_of r) (fault_of r)
unfolding SetAfter
not_listed call r v =
    let a = call.returned.returned in
    let z = (rw v at a.left).set_after in
    record { no_set = no_answer v a z.1.0 z.0 call.set_size; no_rounds = z.1.1 }

pub not_classed : {site : List ℕ} (call : ClassCall site) (r : Refusal) → classes_verdict (length call.classes) site ≡ Err r
    → NotClassed call (number_of r) (fault_of r)
unfolding ClassesAfter
not_classed call r v = let z = rw v at call.returned.left in no_answer v call.returned z.1 z.0 call.classes_size

-- the zeros of a job are those of demand 1
pub not_run : {file : List ℕ} (call : JobCall file) (r : Refusal)
    → job_verdict call.lent call.limit file call.returned.after_made call.returned.today_made ≡ Err r → NotRun call (number_of r) (fault_of r)
unfolding Demand1Job
not_run {file} call r v =
    let w : RefusedWith call.reason call.fault (number_of r) (fault_of r) = refused_with v call.returned.returned in
    let some = (number_within r).0 in
    record {
      refused = w;
      zeros = (demand_1.job call.limit file call.lent call.lent' call.reason call.fault (found_of call.after call.after_rounds)
          (found_of call.today call.today_rounds) call.nodes call.classes
          call.returned).sent_back (λ e. absurd (omega (arith, some, w.reason_is, e)));
    }

-- a site that meets an item, in each call that is given it. W is 0
pub site_refused : (site : List ℕ) (r : Refusal) → fault_of r ≡ 0 → site_verdict site ≡ Err r → SiteRefused site (number_of r)
unfolding list_verdict list_inputs apply_verdict classes_verdict job_verdict job_inputs pieces_verdict
site_refused site r w v = record {
  listing = λ table c. rw w at (not_listed c r (rw (buffer_in c.set_size, buffer_in c.work_size, limit_in c.limit_fits, v)));
  applying = λ edition sheet k c. rw w at (not_applied c r (rw (buffer_in c.result_size, k, v)));
  classes = λ c. rw w at (not_classed c r (rw (buffer_in c.classes_size, v)));
  job = λ file t e c. rw w at (not_run c r (rw (sized_in c.lent c.sized, limit_in c.limit_fits, t, e, v)));
}
