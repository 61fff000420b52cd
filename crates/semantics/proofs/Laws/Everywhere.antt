-- The global modality: the diamond of E over (here and φ) says that some present slot meets φ.
use Rattle.std.specs.Prelude.{◌≡◌, refl, ◌↔◌, true, ℕ, ◌<◌}
use Rattle.limits.specs.Limits.{slots}
use Rattle.semantics.specs.Form.{every, Form, here, and, dia}
use Rattle.semantics.specs.Holds.{Env, Model, step, Holds}

-- it holds at any slot s whatever, since E reaches all slots from each
pub global_modality : (M : Model) (ρ : Env) (φ : Form) (s : ℕ)
    → Holds M ρ (dia every (and here φ)) s ↔ ((t : ℕ) × (t < slots) × (M.present t ≡ true) × Holds M ρ φ t)
unfolding Holds step
global_modality M ρ φ s = (λ p. (p.0, p.1, p.3.0, p.3.1), λ p. (p.0, p.1, refl, (p.2, p.3)))
