-- One check after another.
use Rattle.std.specs.Prelude.{◌≡◌, List, ℕ, Err}
use Rattle.verdict.specs.Verdict.{Verdict, Accepted, ◌then◌}
use Rattle.verdict.specs.declared.Refusal.{Refusal}
use Rattle.verdict.proofs.Laws.{refused}
use Rattle.condition.specs.Refusal.{condition_verdict}
use Rattle.even_rule.specs.Free.{FreeRows, FreeAfter, Checked}
use Rattle.even_rule.specs.Judged.{Judged}

-- the masks of an accepted condition
pub checked_rows : {cond masks : List ℕ} {v : Verdict} → Checked cond masks v → v ≡ Accepted → FreeRows cond masks
unfolding FreeAfter
checked_rows k e = rw e at k.masks

module _ {cond masks : List ℕ} where
  -- the check of the condition itself
  pub judged_condition : {v : Verdict} → Checked cond masks v → Judged (condition_verdict cond) cond masks v
  judged_condition k = record { verdict = k.verdict; rows = λ e. checked_rows k e }

  -- the first of two checks refuses
  pub judged_refused : {u : Verdict} (w : Verdict) {r : Refusal} → u ≡ Err r → Judged (u then w) cond masks (Err r)
  judged_refused w e = record { verdict = rw e; rows = λ f. refused f }

  -- the first of two checks accepts, and the second judges
  pub judged_next : {u w v : Verdict} → u ≡ Accepted → Judged w cond masks v → Judged (u then w) cond masks v
  judged_next e j = record { verdict = rw e j.verdict; rows = j.rows }

  -- the first of two checks accepts, the condition among its inputs, and the second looks at other inputs
  pub judged_other : {u w v : Verdict} → FreeRows cond masks → u ≡ Accepted → v ≡ w → Judged (u then w) cond masks v
  judged_other r e f = record { verdict = rw e f; rows = λ _. r }
