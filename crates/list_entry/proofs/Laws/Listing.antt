-- The answers of listing, case by case.
use Rattle.std.specs.Prelude.{◌≡◌, refl, List, ℕ, ◌≤◌, ◌<◌, length, replicate, Result, Ok, Err}
use Rattle.std.proofs.Common.{◌∙◌, subst, arith, sym, ap}
use Rattle.finite.specs.Tests.{below}
use Rattle.finite.proofs.Laws.Bools.{either, look}
use Rattle.finite.proofs.Laws.Below.{below_out, not-below}
use Rattle.verdict.proofs.Laws.{refused}
use Rattle.verdict.specs.Verdict.{Accepted, outcome}
use Rattle.verdict.specs.declared.Refusal.{Refusal}
use Rattle.semantics.specs.Form.{Form}
use Rattle.semantics.specs.Holds.{Env, Model}
use Rattle.semantics.specs.Table.{form_of}
use Rattle.rounds.specs.Makes.{Makes}
use Rattle.site.specs.Site.{site_of}
use Rattle.condition.specs.Bytes.{table_of}
use Rattle.listing.specs.declared.Found.{Found}
use Rattle.listing.specs.Listed.{work_bytes}
use Rattle.listing.specs.Limited.{Limited}
use Rattle.refusals.specs.Refusal.{rounds_verdict}
use Rattle.refusals.proofs.Laws.Items.{rounds_in, rounds-not, rounds_out}
use Rattle.list_entry.specs.Refusal.{list_inputs, list_verdict}
use Rattle.list_entry.specs.Answer.{found_in}
use Rattle.list_entry.specs.Listing.{SetAfter}
use Rattle.list_entry.specs.Answered.{ListTried, ListAnswered}
use Rattle.list_entry.proofs.Laws.Refusal.{list_accepts}

-- ---- the number of rounds under a limit

module _ {limit : ℕ} {M : Model} {φ : Form} {set : List ℕ} {f : Found} (w : Limited limit M φ set f) where
  pub made_over : limit < f.rounds → limit < w.made
  made_over h = omega (arith, w.number)

  pub made_within : f.rounds ≤ limit → w.made ≤ limit
  made_within h = omega (arith, w.number)

  -- a number that is not over the limit is the one that is made
  pub makes_found : f.rounds ≤ limit → (ρ : Env) → Makes M ρ φ f.rounds
  makes_found h ρ = let e : w.made ≡ f.rounds = omega (arith, w.number) in subst (Makes M ρ φ) e (w.makes ρ)

  -- it is judged as that one
  pub rounds_as_made : rounds_verdict limit f.rounds ≡ rounds_verdict limit w.made
  rounds_as_made =
      either
      (look (below limit f.rounds))
      (λ b. let h = below_out limit f.rounds b in rounds-not h ∙ sym (rounds-not (made_over h)))
      (λ b. let h = not-below limit f.rounds b in rounds_in h ∙ sym (rounds_in (made_within h)))

-- ---- listing is tried

-- an item before 15 is met
pub tried_refused : {limit : ℕ} {site table : List ℕ} {set_len work_len : ℕ} {set' work' : List ℕ} {r : Refusal}
    → list_inputs set_len work_len limit site table ≡ Err r → ListTried limit site table set_len work_len set' work' (Err r)
unfolding list_verdict
tried_refused e = record { made = 0; makes = λ a. refused (sym e ∙ a); verdict = rw e; listed = tt }

-- none is, and the condition is listed
module _ {limit : ℕ} {site table : List ℕ} {set_len work_len : ℕ} {set' work' : List ℕ} {f : Found}
    (a : list_inputs set_len work_len limit site table ≡ Accepted) (w : Limited limit (site_of site) (form_of (table_of table)) set' f)
    (zeros : work' ≡ replicate work_bytes 0) where
  pub tried_over : {r : Refusal} → Err r ≡ rounds_verdict limit f.rounds → ListTried limit site table set_len work_len set' work' (Err r)
  unfolding list_verdict
  tried_over e = record { made = w.made; makes = λ _. w.makes; verdict = rw a (e ∙ rounds_as_made w); listed = tt }

  pub tried_within : Accepted ≡ rounds_verdict limit f.rounds → ListTried limit site table set_len work_len set' work' (Ok f)
  unfolding list_verdict
  tried_within e =
      let within = rounds_out limit f.rounds (sym e) in
      let room = (list_accepts set_len work_len limit site table a).work_size in
      record {
        made = w.made;
        makes = λ _. w.makes;
        verdict = rw a (e ∙ rounds_as_made w);
        listed = (w.listed within, makes_found w within, zeros ∙ ap (λ (k : ℕ). replicate k 0) (sym room));
      }

-- ---- listing answers

module _ {limit : ℕ} {site table set set' work work' : List ℕ} {r : Result Found Refusal}
    (t : ListTried limit site table (length set) (length work) set' work' r) where
  pub answered_listed : {f : Found} → r ≡ Ok f → ListAnswered limit site table set set' work work' (outcome r) (found_in r)
  unfolding SetAfter
  answered_listed {f} e =
      let h = rw e at t.listed in
      record { made = t.made; makes = t.makes; verdict = t.verdict; left = rw e (record { set_after = (h.0, h.1); work_zero = h.2 }) }

  pub answered_refused : {q : Refusal} → r ≡ Err q → {set'' work'' : List ℕ} → set'' ≡ replicate (length set) 0 → work'' ≡ replicate (length work) 0
      → ListAnswered limit site table set set'' work work'' (outcome r) (found_in r)
  unfolding SetAfter
  answered_refused e y z =
      record { made = t.made; makes = t.makes; verdict = t.verdict; left = rw e (record { set_after = (y, (refl, refl)); work_zero = z }) }
