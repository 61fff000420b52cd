-- Demand 1 is met: by cases on the verdict that each call returns.
use Rattle.std.specs.Prelude.{◌≡◌, List, ℕ, length, Err, Ok}
use Rattle.std.proofs.Common.{sym, ◌∙◌, arith}
use Rattle.verdict.proofs.Laws.{refused}
use Rattle.verdict.specs.Verdict.{Verdict, Accepted}
use Rattle.verdict.specs.declared.Refusal.{Refusal}
use Rattle.semantics.specs.Table.{Node}
use Rattle.refusals.proofs.Laws.Items.{numbered}
use Rattle.list_entry.specs.Listing.{SetAfter, ListAfter}
use Rattle.chain_entry.specs.Chaining.{Gives, ChainAfter}
use Rattle.apply_entry.specs.Applying.{SiteAfter}
use Rattle.through.specs.Through.{through}
use Rattle.sheet.specs.Bytes.{edits_of}
use Rattle.rewriting.specs.Rewriting.{TableAfter, rewritten}
use Rattle.classes_entry.specs.Classing.{ClassesAfter}
use Rattle.trailer.specs.Refusal.{edition_in}
use Rattle.trailer.specs.Pieces.{site_in, condition_in, sheet_in}
use Rattle.job_run.specs.Job.{JobAfter}
use Rattle.desk.specs.Returned.{Returned}
use Rattle.demands.specs.Demand1.{Answers, Zeroed, Demand1Job, Demand1List, Demand1Apply, Demand1Rewrite, Demand1Through, Demand1Classes, Demand1Chain, Demand1}

-- what is left after a verdict is the full answer after Accepted, and zeros after each refusal
answers : (After : Verdict → Type 0) {Full Zeros : Type 0} → (After Accepted → Full) → ((q : Refusal) → After (Err q) → Zeros)
    → (v : Verdict) → {reason fault : ℕ} → Returned v After reason fault → Answers reason fault Full Zeros
answers After f z (Ok _) r = record {
  numbered = rw r.reason_is (omega arith);
  full = λ h. (r.fault_is, f r.left);
  sent_back = λ h. absurd (h r.reason_is);
}
answers After f z (Err q) r = record {
  numbered = rw r.reason_is (numbered (Err q)).to_last;
  full = λ h. refused ((numbered (Err q)).accepts (sym r.reason_is ∙ h));
  sent_back = λ h. z q r.left;
}

demand_1_job : Demand1Job
unfolding Demand1Job SiteAfter TableAfter SetAfter ClassesAfter
demand_1_job limit file b b' reason fault after today nodes classes r =
    answers (λ v. JobAfter (edition_in file) v (site_in file) (condition_in file) (sheet_in file) b b' after today nodes classes)
    (λ l. l)
    (λ q l.
    record {
      changed_zero = l.site_after;
      table_zero = l.table_after.1;
      after_zero = l.list_after.0;
      today_zero = l.list_today.0;
      classes_zero = l.classes_after.0;
      work_zero = l.work_zero;
      none_after = l.list_after.1.0;
      none_today = l.list_today.1.0;
      no_nodes = l.table_after.0;
      no_classes = l.classes_after.1;
      no_rounds_after = l.list_after.1.1;
      no_rounds_today = l.list_today.1.1;
    })
    _ r.returned

demand_1_list : Demand1List
unfolding Demand1List SetAfter
demand_1_list limit site table set set' work work' reason fault f r =
    answers (λ v. ListAfter v site table set set' work work' f) (λ p. p) (λ q p. (p.set_after.0, (p.work_zero, p.set_after.1)))
    _ r.returned

demand_1_apply : Demand1Apply
unfolding Demand1Apply SiteAfter
demand_1_apply edition site sheet result result' reason fault r =
    answers (λ v. SiteAfter edition v site sheet result result') (λ p. p) (λ q p. p)
    _ r

-- the table xs is to be made
table_answers : {due : Verdict} (xs : List Node) (result result' : List ℕ) {n reason fault : ℕ}
    → Returned due (λ v. TableAfter v xs result result' n) reason fault
    → Answers reason fault (TableAfter Accepted xs result result' n) (Zeroed result result' × (n ≡ 0))
unfolding TableAfter
table_answers xs result result' {n} r = answers (λ v. TableAfter v xs result result' n) (λ p. p) (λ q p. (p.1, p.0)) _ r

demand_1_rewrite : Demand1Rewrite
unfolding Demand1Rewrite
demand_1_rewrite edition table sheet result result' reason fault n r = table_answers (rewritten edition table sheet) result result' r

demand_1_through : Demand1Through
unfolding Demand1Through
demand_1_through edition sheet result result' reason fault n r = table_answers (through (edits_of edition sheet)) result result' r

demand_1_classes : Demand1Classes
unfolding Demand1Classes ClassesAfter
demand_1_classes site classes classes' reason fault n r =
    answers (λ v. ClassesAfter v site classes classes' n) (λ p. p) (λ q p. p)
    _ r

demand_1_chain : Demand1Chain
unfolding Demand1Chain Gives
demand_1_chain site table way start chain chain' set set' work work' reason fault found steps r =
    answers (λ v. ChainAfter v site table way start chain chain' set set' work work' found steps) (λ p. p)
    (λ q p. (p.gives.0, (p.gives.1, (p.work_zero, (p.gives.2, p.gives.3)))))
    _ r

pub demand_1 : Demand1
demand_1 =
    record {
      job = demand_1_job;
      listing = demand_1_list;
      applying = demand_1_apply;
      rewriting = demand_1_rewrite;
      going_through = demand_1_through;
      classes = demand_1_classes;
      chain = demand_1_chain;
    }
