-- How inputs are judged of which a condition is one, and what the check of the condition hands on.
use Rattle.std.specs.Prelude.{◌≡◌, List, ℕ}
use Rattle.verdict.specs.Verdict.{Verdict, Accepted}
use Rattle.even_rule.specs.Free.{FreeRows}

-- inputs that have the verdict `due` are judged with v; an accepted condition's free variables are handed on in these masks
pub record Judged (due : Verdict) (cond masks : List ℕ) (v : Verdict) : Type 0 where
  pub verdict : v ≡ due
  pub rows : v ≡ Accepted → FreeRows cond masks
