-- The rounds of a condition, computed beside its set.
use Rattle.std.specs.Prelude.{Bool, cond, ℕ, zero, suc, ◌+◌}
use Rattle.std.specs.Bool.{beq}
use Rattle.finite.specs.Tests.{all}
use Rattle.limits.specs.Limits.{slots}
use Rattle.semantics.specs.Form.{Form, top, here, label, name, var, neg, or, and, dia, box, mu, nu, slot}
use Rattle.semantics.specs.Holds.{Set, Env, put, Model}
use Rattle.semantics.specs.FixedPoint.{none, full}
use Rattle.semantics.specs.Eval.{eval}

-- the two sets have the same slots
unfoldable pub equal_sets : Set → Set → Bool
equal_sets S T = all slots (λ x. beq (S x) (T x))

-- the rounds from the set S on, k at most: F S is the body's set for S, and g S the rounds inside the body
unfoldable pub loop : ℕ → (Set → Set) → (Set → ℕ) → Set → ℕ
loop zero F g S = 0
loop (suc k) F g S = let rest = loop k F g (F S) in 1 + g S + cond (equal_sets (F S) S) 0 rest

-- evaluations of a body that are enough (proofs/Laws/Exact) and needed (proofs/Laws/Examples): a loop is at rest after as many as there are slots, and one more shows it
abbrev pub enough : ℕ
enough = suc slots

-- the rounds that listing a condition makes, where `value` computes its sets
unfoldable pub rounds_by : (Model → Env → Form → Set) → Model → Env → Form → ℕ
rounds_by value M ρ top = 0
rounds_by value M ρ here = 0
rounds_by value M ρ (label p) = 0
rounds_by value M ρ (name y) = 0
rounds_by value M ρ (var v) = 0
rounds_by value M ρ (neg φ) = rounds_by value M ρ φ
rounds_by value M ρ (or φ ψ) = rounds_by value M ρ φ + rounds_by value M ρ ψ
rounds_by value M ρ (and φ ψ) = rounds_by value M ρ φ + rounds_by value M ρ ψ
rounds_by value M ρ (dia w φ) = rounds_by value M ρ φ
rounds_by value M ρ (box w φ) = rounds_by value M ρ φ
rounds_by value M ρ (mu v φ) = loop enough (λ S. value M (put ρ v S) φ) (λ S. rounds_by value M (put ρ v S) φ) none
rounds_by value M ρ (nu v φ) = loop enough (λ S. value M (put ρ v S) φ) (λ S. rounds_by value M (put ρ v S) φ) full
rounds_by value M ρ (slot k) = 0

-- by `eval`
abbrev pub rounds : Model → Env → Form → ℕ
rounds = rounds_by eval
