-- Each entry point's chain of items: inputs that meet no item are accepted; the one number of rounds.
use Rattle.std.specs.Prelude.{◌≡◌, refl, false, List, ◌++◌, ℕ, ◌*◌, ◌-◌, ◌≤◌, length, replicate}
use Rattle.std.proofs.Common.{sym, ◌∙◌, ap, arith}
use Rattle.finite.specs.Tests.{below}
use Rattle.finite.proofs.Laws.Below.{below-not, not-below}
use Rattle.verdict.specs.Verdict.{Verdict, Accepted, reason_of}
use Rattle.bitset.specs.Set.{set_bytes}
use Rattle.site.specs.Layout.{site_bytes}
use Rattle.site.specs.Site.{site_of}
use Rattle.site.specs.Refusal.{site_verdict}
use Rattle.limits.specs.Limits.{table_nodes, table_bytes}
use Rattle.semantics.specs.Form.{Form}
use Rattle.semantics.specs.Holds.{Env, Model}
use Rattle.semantics.specs.Table.{Node}
use Rattle.semantics.specs.Block.{rewrite_table}
use Rattle.rounds.specs.Makes.{Makes}
use Rattle.rounds.proofs.Laws.Exact.{makes_unique}
use Rattle.editions.specs.Edition.{edition_verdict}
use Rattle.condition.specs.Bytes.{table_of, bytes_of}
use Rattle.condition.specs.Refusal.{condition_verdict}
use Rattle.condition.proofs.Laws.Bytes.{length_table}
use Rattle.condition.proofs.Laws.Verdict.{accepted_sound}
use Rattle.sheet.specs.Bytes.{edits_of}
use Rattle.sheet.specs.Refusal.{sheet_verdict}
use Rattle.listing.specs.Listed.{work_bytes}
use Rattle.applying.specs.Refusal.{goes_verdict}
use Rattle.rewriting.specs.Refusal.{is_too_long, length_verdict}
use Rattle.rewriting.specs.Rewriting.{rewritten, TableAfter}
use Rattle.rewriting.proofs.Laws.Grow.{table_grows, too_long_end}
use Rattle.refusals.specs.Refusal.{buffer_verdict, limit_verdict, rounds_verdict}
use Rattle.refusals.proofs.Laws.Items.{buffer_in, limit_in}
use Rattle.list_entry.specs.Refusal.{list_inputs, list_verdict}
use Rattle.list_entry.proofs.Laws.Refusal.{Accepts}
use Rattle.apply_entry.specs.Refusal.{apply_verdict}
use Rattle.apply_entry.proofs.Laws.Refusal.{Appliable}
use Rattle.rewrite_entry.specs.Refusal.{rewrite_verdict, through_verdict}
use Rattle.rewrite_entry.proofs.Laws.Refusal.{Rewritable, Throughable}
use Rattle.classes_entry.specs.Refusal.{classes_bytes, classes_verdict}
use Rattle.classes_entry.proofs.Laws.Refusal as classes
use Rattle.job_run.specs.Buffers.{Buffers}
use Rattle.job_run.proofs.Laws.Refusal.{pieces_in}
use Rattle.job_entry.specs.Refusal.{job_inputs, job_verdict}
use Rattle.job_entry.proofs.Laws.Refusal.{sized_in, JobAccepted}
use Rattle.desk.specs.Returned.{Returned}

-- ---- a rewritten table fits exactly if it was too long after no edit: it never gets shorter

module _ (edition : ℕ) (table sheet : List ℕ) (a : condition_verdict table ≡ Accepted) where
  at_end : is_too_long rewrite_table (edits_of edition sheet) (table_of table) ≡ below table_nodes (length (rewritten edition table sheet))
  at_end = too_long_end rewrite_table table_grows (edits_of edition sheet) (table_of table) (omega (arith, (accepted_sound table a).few, length_table table))

  pub fits_short : length (rewritten edition table sheet) ≤ table_nodes → is_too_long rewrite_table (edits_of edition sheet) (table_of table) ≡ false
  fits_short h = at_end ∙ below-not table_nodes (length (rewritten edition table sheet)) h

  pub short_fits : is_too_long rewrite_table (edits_of edition sheet) (table_of table) ≡ false → length (rewritten edition table sheet) ≤ table_nodes
  short_fits h = not-below table_nodes (length (rewritten edition table sheet)) (sym at_end ∙ h)

-- ---- what an accepted call returns, and the table that one leaves

pub reason_none : {due : Verdict} {After : Verdict → Type 0} {reason fault : ℕ} → due ≡ Accepted → Returned due After reason fault → reason ≡ 0
reason_none a r = r.reason_is ∙ ap reason_of a

pub table_left : {due : Verdict} (xs : List Node) (result result' : List ℕ) {n reason fault : ℕ} → due ≡ Accepted
    → Returned due (λ v. TableAfter v xs result result' n) reason fault
    → (n ≡ length xs) × (result' ≡ bytes_of xs ++ replicate (table_bytes - 6 * n) 0)
unfolding TableAfter
table_left xs result result' a r = rw a at r.left

-- ---- listing makes one number of rounds

pub same-makes : (M : Model) (φ : Form) (m n : ℕ) → ((ρ : Env) → Makes M ρ φ m) → ((ρ : Env) → Makes M ρ φ n) → m ≡ n
same-makes M φ m n p q = let none : Env = λ v x. false in makes_unique M φ none none (λ v o x k. refl) m n (p none) (q none)

-- ---- no item is met; of listing and the job, none but 15

pub list_accepted : (set_len work_len limit : ℕ) (site table : List ℕ) → Accepts set_len work_len limit site table
    → list_inputs set_len work_len limit site table ≡ Accepted
unfolding list_inputs
list_accepted set_len work_len limit site table a =
    rw (buffer_in a.set_size, buffer_in a.work_size, limit_in a.limit_fits, a.site_accepted) a.table_accepted

pub apply_accepted : (edition result_len : ℕ) (site sheet : List ℕ) → Appliable edition result_len site sheet → apply_verdict edition result_len site sheet ≡ Accepted
unfolding apply_verdict goes_verdict
apply_accepted edition result_len site sheet a = rw (buffer_in a.result_size, a.edition_accepted, a.site_accepted, a.sheet_accepted, a.goes)

pub rewrite_accepted : (edition result_len : ℕ) (table sheet : List ℕ) → Rewritable edition result_len table sheet → rewrite_verdict edition result_len table sheet ≡ Accepted
unfolding rewrite_verdict length_verdict
rewrite_accepted edition result_len table sheet a = rw (buffer_in a.result_size, a.edition_accepted, a.table_accepted, a.sheet_accepted, a.short)

pub through_accepted : (edition result_len : ℕ) (sheet : List ℕ) → Throughable edition result_len sheet → through_verdict edition result_len sheet ≡ Accepted
unfolding through_verdict length_verdict
through_accepted edition result_len sheet a = rw (buffer_in a.result_size, a.edition_accepted, a.sheet_accepted, a.short)

pub classes_accepted : (classes_len : ℕ) (site : List ℕ) → classes.Accepts classes_len site → classes_verdict classes_len site ≡ Accepted
unfolding classes_verdict
classes_accepted classes_len site a = rw (buffer_in a.classes_size) a.site_accepted

pub job_accepted : (b : Buffers) (limit : ℕ) (file : List ℕ) → JobAccepted b limit file → job_inputs b limit file ≡ Accepted
unfolding job_inputs
job_accepted b limit file a = rw (sized_in b a.sized, limit_in a.limit_fits, a.trailer_accepted) (pieces_in _ _ _ _ a.pieces)
