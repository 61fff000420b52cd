-- The rounds of a node's tree from its children's, by the node's kind.
use Rattle.std.specs.Prelude.{◌≡◌, ℕ, ◌+◌, refl}
use Rattle.semantics.specs.Form.{Form}
use Rattle.semantics.specs.Holds.{Env, put, Model}
use Rattle.semantics.specs.Table.{Leaf, k_true, k_here, k_label, k_name, k_var, k_slot, k_not, k_dia, k_box, k_mu, k_nu, Binary, k_or, k_and, atom, one, two}
use Rattle.semantics.specs.FixedPoint.{none, full}
use Rattle.semantics.specs.Eval.{eval}
use Rattle.rounds.specs.Count.{rounds_by, loop, enough, rounds}

module _ (M : Model) (ρ : Env) where
  pub rounds-atom : (k : Leaf) (p : ℕ) → rounds M ρ (atom k p) ≡ 0
  unfolding rounds_by atom
  rounds-atom k_true p = refl
  rounds-atom k_here p = refl
  rounds-atom k_label p = refl
  rounds-atom k_name p = refl
  rounds-atom k_var p = refl
  rounds-atom k_slot p = refl

  module _ (p : ℕ) (φ : Form) where
    pub rounds-not : rounds M ρ (one k_not p φ) ≡ rounds M ρ φ
    unfolding rounds_by one
    rounds-not = refl

    pub rounds-dia : rounds M ρ (one k_dia p φ) ≡ rounds M ρ φ
    unfolding rounds_by one
    rounds-dia = refl

    pub rounds-box : rounds M ρ (one k_box p φ) ≡ rounds M ρ φ
    unfolding rounds_by one
    rounds-box = refl

    pub rounds_mu : rounds M ρ (one k_mu p φ) ≡ loop enough (λ S. eval M (put ρ p S) φ) (λ S. rounds M (put ρ p S) φ) none
    unfolding rounds_by one
    rounds_mu = refl

    pub rounds_nu : rounds M ρ (one k_nu p φ) ≡ loop enough (λ S. eval M (put ρ p S) φ) (λ S. rounds M (put ρ p S) φ) full
    unfolding rounds_by one
    rounds_nu = refl

  pub rounds-two : (k : Binary) (φ ψ : Form) → rounds M ρ (two k φ ψ) ≡ rounds M ρ φ + rounds M ρ ψ
  unfolding rounds_by two
  rounds-two k_or φ ψ = refl
  rounds-two k_and φ ψ = refl
