-- The set of a condition goes by the sets of its free variables, and of these by the slots alone; rounds that change nothing.
use Rattle.std.specs.Prelude.{◌≡◌, Bool, false, ℕ, zero, suc, ◌≤◌, refl, true, not, ◌&&◌, ◌||◌}
use Rattle.std.proofs.Common.{sym, ◌∙◌, arith, ap, ap₂}
use Rattle.finite.specs.Tests.{same}
use Rattle.finite.proofs.Laws.Bools.{either, look, and_in, or_l, or_r}
use Rattle.finite.proofs.Laws.Below.{same_refl, any_cong, all_cong, apart, equal?}
use Rattle.limits.specs.Limits.{slots}
use Rattle.semantics.specs.Form.{Form, top, here, label, name, var, neg, or, and, dia, box, mu, nu, slot, occ, free}
use Rattle.semantics.specs.Holds.{Set, Env, put, Model, step}
use Rattle.semantics.specs.FixedPoint.{iter, none, full}
use Rattle.semantics.specs.Eval.{eval}
use Rattle.semantics.specs.Agree.{◌≐◌}

-- two valuations with the same slots for each variable that occurs free
abbrev pub Agrees : Form → Env → Env → Type 0
Agrees φ ρ ρ' = (b : Bool) (v : ℕ) → occ b v φ ≡ true → ρ v ≐ ρ' v

-- rounds of two maps that agree on sets with the same slots
iter-agree : (F F' : Set → Set) → ((S S' : Set) → S ≐ S' → F S ≐ F' S') → (S S' : Set) → S ≐ S' → (k : ℕ) → iter k F S ≐ iter k F' S'
unfolding iter
iter-agree F F' h S S' e zero = e
iter-agree F F' h S S' e (suc k) = h _ _ (iter-agree F F' h S S' e k)

pub under : (φ : Form) (v : ℕ) (ρ ρ' : Env) → ((b : Bool) (u : ℕ) → (not (same v u) && occ b u φ) ≡ true → ρ u ≐ ρ' u)
    → (S S' : Set) → S ≐ S' → Agrees φ (put ρ v S) (put ρ' v S')
unfolding put
under φ v ρ ρ' h S S' e b u o x k =
    either
    (look (same u v))
    (λ q. rw (q, put) (e x k))
    (λ q. rw (q, put) (h b u (and_in (apart u v q) o) x k))

pub twice : (b : Bool) (v : ℕ) (φ : Form) → occ b v φ ≡ true → occ (not (not b)) v φ ≡ true
twice true v φ o = o
twice false v φ o = o

-- the free variables are those with an occurrence
pub agrees_free : (φ : Form) (ρ ρ' : Env) → ((v : ℕ) → free v φ ≡ true → ρ v ≐ ρ' v) → Agrees φ ρ ρ'
unfolding free
agrees_free φ ρ ρ' h b v o = h v (either (look b) (λ e. or_l _ _ (rw e at o)) (λ e. or_r (occ true v φ) _ (rw e at o)))

module _ (M : Model) where
  pub agree : (φ : Form) (ρ ρ' : Env) → Agrees φ ρ ρ' → eval M ρ φ ≐ eval M ρ' φ
  unfolding eval occ
  agree top ρ ρ' h s k = refl
  agree here ρ ρ' h s k = refl
  agree (label p) ρ ρ' h s k = refl
  agree (name n) ρ ρ' h s k = refl
  agree (var v) ρ ρ' h s k = h true v (same_refl v) s k
  agree (neg φ) ρ ρ' h s k = ap not (agree φ ρ ρ' (λ b v o. h (not b) v (twice b v φ o)) s k)
  agree (or φ ψ) ρ ρ' h s k =
      ap₂ ◌||◌ (agree φ ρ ρ' (λ b v o. h b v (or_l _ _ o)) s k) (agree ψ ρ ρ' (λ b v o. h b v (or_r (occ b v φ) _ o)) s k)
  agree (and φ ψ) ρ ρ' h s k =
      ap₂ ◌&&◌ (agree φ ρ ρ' (λ b v o. h b v (or_l _ _ o)) s k) (agree ψ ρ ρ' (λ b v o. h b v (or_r (occ b v φ) _ o)) s k)
  agree (dia w φ) ρ ρ' h s k = any_cong slots _ _ (λ t l. ap (◌&&◌ (step M w s t)) (agree φ ρ ρ' h t l))
  agree (box w φ) ρ ρ' h s k = all_cong slots _ _ (λ t l. ap (◌||◌ (not (step M w s t))) (agree φ ρ ρ' h t l))
  agree (mu v φ) ρ ρ' h s k =
      iter-agree _ _ (λ S S' e. agree φ (put ρ v S) (put ρ' v S') (under φ v ρ ρ' h S S' e)) none none (λ x l. refl) slots s k
  agree (nu v φ) ρ ρ' h s k =
      iter-agree _ _ (λ S S' e. agree φ (put ρ v S) (put ρ' v S') (under φ v ρ ρ' h S S' e)) full full (λ x l. refl) slots s k
  agree (slot n) ρ ρ' h s k = refl

  -- only the slots of the free variables' sets count
  pub eval-agree : (φ : Form) (ρ ρ' : Env) → ((v : ℕ) → free v φ ≡ true → ρ v ≐ ρ' v) → eval M ρ φ ≐ eval M ρ' φ
  eval-agree φ ρ ρ' h = agree φ ρ ρ' (agrees_free φ ρ ρ' h)

  -- of the set of one variable only the slots count
  pub eval-put : (φ : Form) (ρ : Env) (v : ℕ) (S S' : Set) → S ≐ S' → eval M (put ρ v S) φ ≐ eval M (put ρ v S') φ
  eval-put φ ρ v S S' e = agree φ (put ρ v S) (put ρ v S') (under φ v ρ ρ (λ b u o x k. refl) S S' e)

-- after a round that changes nothing, all later rounds give the same
pub iter_rest : (F : Set → Set) → ((S S' : Set) → S ≐ S' → F S ≐ F S') → (S : Set) (k : ℕ) → F (iter k F S) ≐ iter k F S
    → (n : ℕ) → k ≤ n → iter n F S ≐ iter k F S
unfolding iter
iter_rest F h S k e zero l = λ x q. ap (λ (i : ℕ). iter i F S x) (let z : 0 ≡ k = omega arith in z)
iter_rest F h S k e (suc n) l =
    either
    (equal? k (suc n))
    (λ q x d. ap (λ (i : ℕ). iter i F S x) (sym q))
    (λ q x d. h (iter n F S) (iter k F S) (iter_rest F h S k e n (omega arith)) x d ∙ e x d)
