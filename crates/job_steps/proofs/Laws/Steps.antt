-- The answers of a job's steps, case by case.
use Rattle.std.proofs.Common.{◌∙◌, sym}
use Rattle.std.specs.Prelude.{List, ℕ, ◌≡◌, refl, IfOk, Result, Ok, Err}
use Rattle.finite.specs.Bytes.{Bytes}
use Rattle.verdict.specs.Verdict.{Verdict, Accepted, outcome}
use Rattle.verdict.specs.declared.Refusal.{Refusal}
use Rattle.semantics.specs.Block.{rewrite_table}
use Rattle.condition.specs.Bytes.{table_of}
use Rattle.sheet.specs.Bytes.{edits_of}
use Rattle.applying.specs.Applies.{Applies}
use Rattle.rewriting.specs.Answer.{nodes_of}
use Rattle.rewriting.specs.State.{Rewrote}
use Rattle.rewriting.proofs.Laws.Passes.{made_as}
use Rattle.apply_entry.specs.Applying.{SiteAfter}
use Rattle.apply_entry.proofs.Laws.Applying.{site_written}
use Rattle.job_steps.specs.Steps.{change_verdict, Changed}

-- ---- the sheet is applied, then the condition is rewritten

module _ {edition : ℕ} {site cond sheet changed changed' table table' : List ℕ} where
  pub changed_stuck : {r : Refusal} → Applies edition site sheet changed' (Err r) → Changed edition site cond sheet changed changed' table table' (Err r)
  unfolding change_verdict
  changed_stuck a = record { verdict = rw (sym a.answer); site_after = tt; table_after = tt }

  pub changed_then : Applies edition site sheet changed' Accepted → Bytes changed' → {r : Result ℕ Refusal}
      → Rewrote rewrite_table (edits_of edition sheet) (table_of cond) table table' (outcome r) (nodes_of r)
      → Changed edition site cond sheet changed changed' table table' r
  unfolding change_verdict SiteAfter
  changed_then a b {r} w =
      let s = site_written a refl b in
      record { verdict = rw (sym a.answer) w.verdict; site_after = on_ok r s; table_after = made_as r w }
    where
      on_ok : {A : Type 0} (r : Result ℕ Refusal) → A → IfOk r (λ _. A)
      on_ok (Ok n) s = s
      on_ok (Err q) s = tt
