-- The answers of the check, item by item.
use Rattle.std.specs.Prelude.{◌≡◌, List, true, false, ℕ, ◌-◌, ◌/◌, ◌≤◌, ◌<◌, length, get_or, Err}
use Rattle.std.proofs.Common.{◌∙◌, sym, arith}
use Rattle.finite.specs.Tests.{below}
use Rattle.finite.proofs.Laws.Below.{below_in, below-not}
use Rattle.verdict.specs.Verdict.{Accepted}
use Rattle.verdict.specs.declared.Refusal.{Refusal}
use Rattle.verdict.specs.declared.Refusal.TheVariants.{FreeVariable}
use Rattle.semantics.specs.Table.{nodes_fit}
use Rattle.condition.specs.Bytes.{table_of}
use Rattle.condition.specs.Refusal.{nodes_verdict, even_verdict, closed_verdict, condition_verdict}
use Rattle.condition.proofs.Laws.Bytes.{length_table}
use Rattle.condition.proofs.Laws.Fits.{none-unfit, fit_none}
use Rattle.condition.proofs.Laws.Verdict.{nodes_accepted}
use Rattle.even_rule.specs.Free.{no_masks, FreeAfter, Checked}
use Rattle.even_rule.specs.Masks.{free_bits, Rows, Fit, United}
use Rattle.even_rule.proofs.Laws.Check.{last-closed, last_open, free_rows}

-- what the pass asks of a table that meets neither item 7 nor item 8
pub fit : (S : List ℕ) → nodes_verdict S ≡ Accepted → Fit S
fit S e = let h = nodes_accepted S e in record { few = h.0.2; fits = h.1 }

module _ (S rows : List ℕ) (zeros : rows ≡ no_masks) where
  refused : (r : Refusal) → condition_verdict S ≡ Err r → Checked S rows (Err r)
  unfolding FreeAfter
  refused r e = record { verdict = sym e; masks = zeros }

  -- items 7 and 8
  pub nodes_refused : {r : Refusal} → Err r ≡ nodes_verdict S → Checked S rows (Err r)
  unfolding condition_verdict
  nodes_refused {r} e = refused r (rw (← e))

  module _ (e₈ : nodes_verdict S ≡ Accepted) where
    -- item 9
    pub even_refused : {r : Refusal} → Err r ≡ even_verdict S → Checked S rows (Err r)
    unfolding condition_verdict
    even_refused {r} e = refused r (rw (e₈, ← e))

    module _ (e₉ : even_verdict S ≡ Accepted) {words : List ℕ} (w : Rows S words) {m : ℕ} (em : m ≡ free_bits (get_or words (length S / 6 - 1) 0)) where
      some : 6 ≤ length S
      some = (nodes_accepted S e₈).0.1

      pub answer_10 : 0 < m → Checked S rows (Err (FreeVariable (length S / 6 - 1)))
      unfolding condition_verdict closed_verdict
      answer_10 o =
          rw (sym (length_table S)) (refused (FreeVariable (length (table_of S) - 1)) (rw (e₈, e₉, last_open w some (rw em at o))))

      pub answer_none : m ≤ 0 → {rows' : List ℕ} → United words rows rows' (length S / 6) → Checked S rows' Accepted
      unfolding FreeAfter condition_verdict closed_verdict
      answer_none o u =
          let z : m ≡ 0 = omega arith in
          record {
            verdict = sym (rw (e₈, e₉, last-closed w some (sym em ∙ z)));
            masks = free_rows w (rw zeros at u);
          }
