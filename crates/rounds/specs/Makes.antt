-- How many rounds listing a condition makes: docs/SPEC.md, "The condition". A round is one evaluation of a loop's body; sets are those of `Holds`.
use Rattle.std.specs.Prelude.{◌≡◌, ◌↔◌, true, false, ℕ, ◌+◌, ◌<◌}
use Rattle.limits.specs.Limits.{slots}
use Rattle.semantics.specs.Form.{Form, top, here, label, name, var, neg, or, and, dia, box, mu, nu, slot}
use Rattle.semantics.specs.Holds.{Set, Env, put, Model, Holds}

-- T is the set of the slots with P
unfoldable pub SetOf : (ℕ → Type 0) → Set → Type 0
SetOf P T = (x : ℕ) → x < slots → (T x ≡ true) ↔ P x

-- a loop that has come to the set S makes n rounds from there. `Body S x`: the body, with S for the loop's variable, holds at x; `Inner S m`:
-- evaluating the body with S makes m rounds of the loops inside it, which start again each time
pub data Loop (Body : Set → ℕ → Type 0) (Inner : Set → ℕ → Type 0) : Set → ℕ → Type 0 where
  -- the body gives back its own input: the last round, which counts
  last : {S : Set} {m : ℕ} → SetOf (Body S) S → Inner S m → Loop Body Inner S (1 + m)
  -- it gives another set, T, from which the loop goes on
  more : {S T : Set} {m n : ℕ} → ¬ SetOf (Body S) S → SetOf (Body S) T → Inner S m → Loop Body Inner T n → Loop Body Inner S (1 + m + n)

-- listing the condition φ makes n rounds. A loop starts from the empty set for mu, from the full set for nu. A node that is shared stands in
-- the tree, and counts, once for each path from the last node
unfoldable pub Makes : Model → Env → Form → ℕ → Type 0
Makes M ρ top n = n ≡ 0
Makes M ρ here n = n ≡ 0
Makes M ρ (label p) n = n ≡ 0
Makes M ρ (name y) n = n ≡ 0
Makes M ρ (var v) n = n ≡ 0
Makes M ρ (neg φ) n = Makes M ρ φ n
Makes M ρ (or φ ψ) n = (k l : ℕ) × Makes M ρ φ k × Makes M ρ ψ l × (n ≡ k + l)
Makes M ρ (and φ ψ) n = (k l : ℕ) × Makes M ρ φ k × Makes M ρ ψ l × (n ≡ k + l)
Makes M ρ (dia w φ) n = Makes M ρ φ n
Makes M ρ (box w φ) n = Makes M ρ φ n
Makes M ρ (mu v φ) n = Loop (λ S. Holds M (put ρ v S) φ) (λ S. Makes M (put ρ v S) φ) (λ x. false) n
Makes M ρ (nu v φ) n = Loop (λ S. Holds M (put ρ v S) φ) (λ S. Makes M (put ρ v S) φ) (λ x. true) n
Makes M ρ (slot k) n = n ≡ 0
