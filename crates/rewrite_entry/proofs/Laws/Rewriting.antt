-- The answers of rewriting and of the condition for going through, case by case.
use Rattle.std.specs.Prelude.{◌≡◌, refl, List, true, ℕ, ◌≤◌, length, replicate, IfOk, Result, Ok, Err}
use Rattle.verdict.specs.Verdict.{Verdict, Accepted, outcome}
use Rattle.verdict.specs.declared.Refusal.{Refusal}
use Rattle.semantics.specs.Edit.{sheet_legal}
use Rattle.semantics.specs.Table.{Node, nodes_fit}
use Rattle.condition.specs.Bytes.{table_of}
use Rattle.condition.specs.Refusal.{condition_verdict}
use Rattle.condition.proofs.Laws.Verdict.{accepted_sound}
use Rattle.sheet.specs.Bytes.{edits_of}
use Rattle.sheet.specs.Refusal.{sheet_verdict}
use Rattle.sheet.proofs.Laws.Accepted.{accepted_sheet}
use Rattle.limits.specs.Limits.{table_bytes}
use Rattle.rewriting.specs.Answer.{nodes_of}
use Rattle.rewriting.specs.Rewriting.{TableAfter}
use Rattle.rewrite_entry.specs.Answered.{TableAnswered}

-- an accepted condition and sheet, as rewriting asks for them
pub accepted_table : (table : List ℕ) → condition_verdict table ≡ Accepted → (6 ≤ length table) × (length table ≤ table_bytes) × (nodes_fit 0 (table_of table) ≡ true)
accepted_table table e = let s = accepted_sound table e in (s.some, s.few, s.fits)

pub accepted_legal : (edition : ℕ) (sheet : List ℕ) → sheet_verdict sheet ≡ Accepted → sheet_legal (edits_of edition sheet) ≡ true
accepted_legal edition sheet e = (accepted_sheet edition sheet e).are_legal

-- ---- the answer

module _ {due : Verdict} {xs : List Node} {result result' : List ℕ} {r : Result ℕ Refusal} (j : outcome r ≡ due) where
  pub answered_made : {n : ℕ} → r ≡ Ok n → IfOk r (TableAfter Accepted xs result result') → TableAnswered due xs result result' (outcome r) (nodes_of r)
  answered_made e w = record { verdict = j; left = rw e (rw e at w) }

  pub answered_refused : {q : Refusal} → r ≡ Err q → result' ≡ replicate (length result) 0 → TableAnswered due xs result result' (outcome r) (nodes_of r)
  unfolding TableAfter
  answered_refused e z = record { verdict = j; left = rw e (refl, z) }
