-- A condition depends on its free variables alone, grows with those under an even number of nots, and shrinks with those under an odd one.
use Rattle.std.specs.Prelude.{◌≡◌, ◌↔◌, ◌≢◌, Bool, not, ◌&&◌, ℕ, ◌<◌, true, false}
use Rattle.std.proofs.Common.{sym, ◌∙◌, subst, inl, inr}
use Rattle.finite.specs.Tests.{same}
use Rattle.finite.proofs.Laws.Bools.{either, look, clash, and_in, or_l, or_r}
use Rattle.finite.proofs.Laws.Below.{same_eq, same_refl, ne_same, apart}
use Rattle.limits.specs.Limits.{slots}
use Rattle.semantics.specs.Form.{Form, top, here, label, name, var, neg, or, and, dia, box, mu, nu, slot, occ}
use Rattle.semantics.specs.Holds.{Set, Env, put, Model, Holds}
use Rattle.semantics.specs.Monotone.{◌⊆◌}

pub put_same : (ρ : Env) (v : ℕ) (S : Set) (x : ℕ) → put ρ v S v x ≡ S x
unfolding put
put_same ρ v S x = rw (same_refl v, put)

pub put_other : (ρ : Env) {v u : ℕ} (S : Set) (x : ℕ) → u ≢ v → put ρ v S u x ≡ ρ u x
unfolding put
put_other ρ S x h = rw (ne_same h, put)

-- under a mu or nu of v the sets of the variables compare as outside, and v's with itself
under : (b : Bool) (φ : Form) (v : ℕ) (S : Set) (ρ ρ' : Env) → ((u : ℕ) → (not (same v u) && occ b u φ) ≡ true → ρ u ⊆ ρ' u)
    → (u : ℕ) → occ b u φ ≡ true → put ρ v S u ⊆ put ρ' v S u
unfolding put
under b φ v S ρ ρ' h u o x k p =
    either
    (look (same u v))
    (λ e. rw (e, put) (rw (e, put) at p))
    (λ e. rw (e, put) (h u (and_in (apart u v e) o) x k (rw (e, put) at p)))

module _ (M : Model) where
  pub mono : (φ : Form) (ρ ρ' : Env) → ((v : ℕ) → occ true v φ ≡ true → ρ v ⊆ ρ' v) → ((v : ℕ) → occ false v φ ≡ true → ρ' v ⊆ ρ v)
      → (s : ℕ) → s < slots → Holds M ρ φ s → Holds M ρ' φ s
  unfolding Holds occ
  mono top ρ ρ' up down s h p = p
  mono here ρ ρ' up down s h p = p
  mono (label _) ρ ρ' up down s h p = p
  mono (name _) ρ ρ' up down s h p = p
  mono (var v) ρ ρ' up down s h p = up v (same_refl v) s h p
  mono (neg φ) ρ ρ' up down s h p = λ q. p (mono φ ρ' ρ down up s h q)
  mono (or φ ψ) ρ ρ' up down s h p =
      either
      p
      (λ q. inl (mono φ ρ ρ' (λ v o. up v (or_l _ _ o)) (λ v o. down v (or_l _ _ o)) s h q))
      (λ q. inr (mono ψ ρ ρ' (λ v o. up v (or_r (occ true v φ) _ o)) (λ v o. down v (or_r (occ false v φ) _ o)) s h q))
  mono (and φ ψ) ρ ρ' up down s h p = (
    mono φ ρ ρ' (λ v o. up v (or_l _ _ o)) (λ v o. down v (or_l _ _ o)) s h p.0,
    mono ψ ρ ρ' (λ v o. up v (or_r (occ true v φ) _ o)) (λ v o. down v (or_r (occ false v φ) _ o)) s h p.1,
  )
  mono (dia w φ) ρ ρ' up down s h p = (p.0, p.1, p.2, mono φ ρ ρ' up down p.0 p.1 p.3)
  mono (box w φ) ρ ρ' up down s h p = λ t k e. mono φ ρ ρ' up down t k (p t k e)
  mono (mu v φ) ρ ρ' up down s h p = λ S c.
      p S (λ x k q. c x k (mono φ (put ρ v S) (put ρ' v S) (under true φ v S ρ ρ' up) (under false φ v S ρ' ρ down) x k q))
  mono (nu v φ) ρ ρ' up down s h p =
      let S = p.0 in
      (S, λ x k q. mono φ (put ρ v S) (put ρ' v S) (under true φ v S ρ ρ' up) (under false φ v S ρ' ρ down) x k (p.1 x k q), p.2)
  mono (slot _) ρ ρ' up down s h p = p

  -- a variable that never stands under an odd number of nots: its set may grow
  pub mono_put : (φ : Form) (ρ : Env) (v : ℕ) → occ false v φ ≡ false → (S S' : Set) → S ⊆ S'
      → (s : ℕ) → s < slots → Holds M (put ρ v S) φ s → Holds M (put ρ v S') φ s
  unfolding put
  mono_put φ ρ v even S S' h = mono φ (put ρ v S) (put ρ v S')
      (λ u o x k p. either (look (same u v)) (λ e. rw (e, put) (h x k (rw (e, put) at p))) (λ e. rw (e, put) (rw (e, put) at p)))
      (λ u o x k p. either (look (same u v))
      (λ e. clash (subst (λ n. occ false n φ ≡ true) (same_eq e) o) even)
      (λ e. rw (e, put) (rw (e, put) at p)))

  -- only the sets of the free variables count, and of them only the slots
  pub coincide : (φ : Form) (ρ ρ' : Env) → ((b : Bool) (v : ℕ) → occ b v φ ≡ true → (x : ℕ) → x < slots → ρ v x ≡ ρ' v x)
      → (s : ℕ) → s < slots → Holds M ρ φ s ↔ Holds M ρ' φ s
  coincide φ ρ ρ' h s k = (
    mono φ ρ ρ' (λ v o x l p. sym (h true v o x l) ∙ p) (λ v o x l p. h false v o x l ∙ p) s k,
    mono φ ρ' ρ (λ v o x l p. h true v o x l ∙ p) (λ v o x l p. sym (h false v o x l) ∙ p) s k,
  )
