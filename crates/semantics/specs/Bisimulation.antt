-- Bisimulations, which docs/SPEC.md calls likenesses, and class numbers: docs/SPEC.md, "Classes".
use Rattle.std.specs.Prelude.{◌≡◌, ◌↔◌, Bool, true, ℕ, ◌≤◌, ◌<◌}
use Rattle.limits.specs.Limits.{slots, labels, names, links}
use Rattle.semantics.specs.Form.{Way, along, against, every}
use Rattle.semantics.specs.Holds.{Model, step}

-- the ways 0 to 15
unfoldable pub Link : Way → Type 0
Link (along m) = m < links
Link (against m) = m < links
Link every = ⊥

-- a bisimulation between two sites (a likeness, where both are one site) relates slots of one to slots of the other: related slots
-- agree on here, every label and every name, and for each way 0 to 15 each neighbour of one is related to some neighbour of the other, both ways round
pub record Bisimulation (M N : Model) (R : ℕ → ℕ → Type 0) : Type 0 where
  pub on_here : (s t : ℕ) → s < slots → t < slots → R s t → M.present s ≡ N.present t
  pub on_labels : (p s t : ℕ) → p < labels → s < slots → t < slots → R s t → M.marked p s ≡ N.marked p t
  pub on_names : (n s t : ℕ) → n < names → s < slots → t < slots → R s t → (s ≡ M.place n) ↔ (t ≡ N.place n)
  pub forth : (w : Way) (s t s' : ℕ) → Link w → s < slots → t < slots → R s t → s' < slots → step M w s s' ≡ true
      → (t' : ℕ) × (t' < slots) × (step N w t t' ≡ true) × R s' t'
  pub back : (w : Way) (s t t' : ℕ) → Link w → s < slots → t < slots → R s t → t' < slots → step N w t t' ≡ true
      → (s' : ℕ) × (s' < slots) × (step M w s s' ≡ true) × R s' t'

-- a relation that relates each slot of either site to one of the other
pub record Total (R : ℕ → ℕ → Type 0) : Type 0 where
  pub ahead : (s : ℕ) → s < slots → (t : ℕ) × (t < slots) × R s t
  pub behind : (t : ℕ) → t < slots → (s : ℕ) × (s < slots) × R s t

-- some bisimulation of the site with itself relates s and t. A relation on slots is a set of pairs
unfoldable pub Bisimilar : Model → ℕ → ℕ → Type 0
Bisimilar M s t = (R : ℕ → ℕ → Bool) × Bisimulation M M (λ a b. R a b ≡ true) × (R s t ≡ true)

-- c is the class number of s: the lowest slot that some bisimulation relates to s
pub record IsClass (M : Model) (s c : ℕ) : Type 0 where
  pub is_slot : c < slots
  pub bisimilar : Bisimilar M s c
  pub low : (t : ℕ) → t < slots → Bisimilar M s t → c ≤ t
