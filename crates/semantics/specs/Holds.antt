-- What a condition says of a slot: satisfaction in the modal mu-calculus, over a site as a Kripke structure. Nothing is computed or iterated here.
use Rattle.std.specs.Prelude.{◌≡◌, ◌⊎◌, Bool, true, cond, ℕ, ◌<◌}
use Rattle.finite.specs.Tests.{same}
use Rattle.limits.specs.Limits.{slots}
use Rattle.semantics.specs.Form.{Way, along, against, every, Form, top, here, label, name, var, neg, or, and, dia, box, mu, nu, slot}

-- a set of slots, read below `slots` alone
abbrev pub Set : Type 0
Set = ℕ → Bool

-- a valuation: a set for each variable
abbrev pub Env : Type 0
Env = ℕ → Set

-- the valuation ρ with the set S for the variable v
unfoldable pub put : Env → ℕ → Set → Env
put ρ v S u x = cond (same u v) (S x) (ρ u x)

-- a site, as a Kripke structure whose worlds are the slots: which slots are present, the slots of each label, the slot of each name,
-- and the slots that link m leads to from each slot
pub record Model : Type 0 where
  pub present : Set
  pub marked : ℕ → Set
  pub place : ℕ → ℕ
  pub link : ℕ → ℕ → Set

-- the way w reaches t from s: its accessibility relation
unfoldable pub step : Model → Way → ℕ → Set
step M (along m) s t = M.link m s t
step M (against m) s t = M.link m t s
step M every s t = true

-- the condition φ lists the slot s, or holds there. Mu, the least fixed point: s is in every set T with body(T) inside T. Nu, the greatest:
-- s is in some set T inside body(T)
unfoldable pub Holds : Model → Env → Form → ℕ → Type 0
Holds M ρ top s = Unit {0}
Holds M ρ here s = M.present s ≡ true
Holds M ρ (label p) s = M.marked p s ≡ true
Holds M ρ (name n) s = s ≡ M.place n
Holds M ρ (var v) s = ρ v s ≡ true
Holds M ρ (neg φ) s = ¬ Holds M ρ φ s
Holds M ρ (or φ ψ) s = Holds M ρ φ s ⊎ Holds M ρ ψ s
Holds M ρ (and φ ψ) s = Holds M ρ φ s × Holds M ρ ψ s
Holds M ρ (dia w φ) s = (t : ℕ) × (t < slots) × (step M w s t ≡ true) × Holds M ρ φ t
Holds M ρ (box w φ) s = (t : ℕ) → t < slots → step M w s t ≡ true → Holds M ρ φ t
Holds M ρ (mu v φ) s = (T : Set) → ((x : ℕ) → x < slots → Holds M (put ρ v T) φ x → T x ≡ true) → T s ≡ true
Holds M ρ (nu v φ) s = (T : Set) × ((x : ℕ) → x < slots → T x ≡ true → Holds M (put ρ v T) φ x) × (T s ≡ true)
Holds M ρ (slot k) s = s ≡ k

-- the condition φ holds at one of the slots s and t and not at the other
unfoldable pub Distinguishes : Model → Env → Form → ℕ → ℕ → Type 0
Distinguishes M ρ φ s t = (Holds M ρ φ s × ¬ Holds M ρ φ t) ⊎ (¬ Holds M ρ φ s × Holds M ρ φ t)
