-- Kinds by their numbers, as the evaluator tells them apart.
use Rattle.std.specs.Prelude.{◌≡◌, ◌⊎◌, ℕ, ◌≤◌, ◌<◌}
use Rattle.std.proofs.Common.{inl, inr, arith}
use Rattle.limits.specs.Limits.{variables, not_no, dia_no, box_no, mu_no, nu_no}
use Rattle.finite.proofs.Laws.Bools.{either}
use Rattle.finite.proofs.Laws.Below.{equal?}
use Rattle.semantics.specs.Table.{kind_of}
use Rattle.condition.specs.Limits.{param_limit}
use Rattle.condition.proofs.Laws.Limits.{limit_loop}

-- a not, diamond or box has a left child
pub unary_left : (k : ℕ) → (k ≡ not_no) ⊎ ((k ≡ dia_no) ⊎ (k ≡ box_no)) → (not_no ≤ k) × (k ≤ nu_no)
unary_left k q = either q (λ e. omega arith) (λ r. either r (λ e. omega arith) (λ e. omega arith))

pub modal_in : (k : ℕ) → dia_no ≤ k → k < mu_no → (k ≡ dia_no) ⊎ (k ≡ box_no)
modal_in k h l = either (equal? k dia_no) inl (λ n. inr (omega arith))

-- the number of a loop's variable is below the limit
pub loop_variable : {k x : ℕ} → (mu_no ≤ k) × (k ≤ nu_no) → x < param_limit (kind_of k) → x < variables
loop_variable {k} h l = rw (limit_loop k h.0 h.1) at l
