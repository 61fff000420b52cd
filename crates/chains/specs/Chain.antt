-- Chains along a way from a start to a goal (paths of a graph), the one to give, and the slots that can be reached: docs/SPEC.md, "The chain behind a
-- place". Nothing is computed here.
use Rattle.std.specs.Prelude.{◌≡◌, ◌↔◌, true, ℕ, suc, ◌≤◌, ◌<◌}
use Rattle.limits.specs.Limits.{slots}
use Rattle.semantics.specs.Form.{Way, Form, var, or, dia, mu}
use Rattle.semantics.specs.Holds.{Set, Model, step}

-- the slots c 0, c 1, .. c n are a chain of n steps along the way w from s to the goal G: the start first, each next slot one step of w from
-- the one before, the last a slot of the goal. Of c only these are read
pub record Chain (M : Model) (w : Way) (G : ℕ → Type 0) (s n : ℕ) (c : ℕ → ℕ) : Type 0 where
  pub is_slot : (i : ℕ) → i ≤ n → c i < slots
  pub start : c 0 ≡ s
  pub steps : (i : ℕ) → i < n → step M w (c i) (c (suc i)) ≡ true
  pub goal : G (c n)

-- there is one, of any length
unfoldable pub SomeChain : Model → Way → (ℕ → Type 0) → ℕ → Type 0
SomeChain M w G s = (n : ℕ) × (c : ℕ → ℕ) × Chain M w G s n c

-- the chain to give: of fewest steps; and of those with as many, the one with the lowest slot at the first difference: where another, d, has the same
-- slots before place i, its slot at place i is not lower
pub record Shortest (M : Model) (w : Way) (G : ℕ → Type 0) (s n : ℕ) (c : ℕ → ℕ) : Type 0 where
  pub chain : Chain M w G s n c
  pub fewest : (m : ℕ) (d : ℕ → ℕ) → Chain M w G s m d → n ≤ m
  pub lowest : (d : ℕ → ℕ) → Chain M w G s n d → (i : ℕ) → i ≤ n → ((j : ℕ) → j < i → c j ≡ d j) → c i ≤ d i

-- t can be reached from s
unfoldable pub Reached : Model → Way → ℕ → ℕ → Type 0
Reached M w s t = SomeChain M w (λ x. x ≡ t) s

-- R is the set of all slots that can be reached from s
unfoldable pub ReachedSet : Model → Way → ℕ → Set → Type 0
ReachedSet M w s R = (t : ℕ) → t < slots → (R t ≡ true) ↔ Reached M w s t

-- mu 15 (goal or diamond variable 15): the condition that lists the start exactly if there is a chain
unfoldable pub leads : Way → Form → Form
leads w φ = mu 15 (or φ (dia w (var 15)))
