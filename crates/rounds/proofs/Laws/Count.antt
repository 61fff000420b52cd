-- The rounds of a condition, computed beside its set.
use Rattle.std.specs.Prelude.{◌≡◌, Bool, true, false, not, cond, refl, ℕ, zero, suc, ◌+◌}
use Rattle.std.proofs.Common.{ap₂}
use Rattle.std.specs.Bool.{beq}
use Rattle.finite.proofs.Laws.Bools.{clash, or_l, or_r, beq-true, eq_beq}
use Rattle.finite.proofs.Laws.Below.{all_in, all_out, all_cong}
use Rattle.limits.specs.Limits.{slots}
use Rattle.semantics.specs.Form.{Form, top, here, label, name, var, neg, or, and, dia, box, mu, nu, slot, occ, free}
use Rattle.semantics.specs.Holds.{Set, Env, put, Model}
use Rattle.semantics.specs.FixedPoint.{none, full}
use Rattle.semantics.specs.Agree.{◌≐◌}
use Rattle.semantics.proofs.Laws.Agree.{Agrees, under, twice, agree, agrees_free}
use Rattle.rounds.specs.Count.{equal_sets, loop, enough, rounds_by, rounds}

-- what the test says
pub same_in : (S T : Set) → S ≐ T → equal_sets S T ≡ true
unfolding equal_sets
same_in S T e = all_in slots _ (λ x h. eq_beq (e x h))

pub same_out : (S T : Set) → equal_sets S T ≡ true → S ≐ T
unfolding equal_sets
same_out S T p x h = beq-true _ _ (all_out slots _ p x h)

same_cong : (S S' T T' : Set) → S ≐ S' → T ≐ T' → equal_sets S T ≡ equal_sets S' T'
unfolding equal_sets
same_cong S S' T T' e d = all_cong slots _ _ (λ x h. ap₂ beq (e x h) (d x h))

-- rounds of two maps that agree on sets with the same slots, and make as many rounds inside
pub loop-agree : (F F' : Set → Set) (g g' : Set → ℕ) → ((S S' : Set) → S ≐ S' → F S ≐ F' S') → ((S S' : Set) → S ≐ S' → g S ≡ g' S')
    → (k : ℕ) (S S' : Set) → S ≐ S' → loop k F g S ≡ loop k F' g' S'
unfolding loop
loop-agree F F' g g' f h zero S S' e = refl
loop-agree F F' g g' f h (suc k) S S' e =
    ap₂ (λ (a b : ℕ). 1 + a + b) (h S S' e)
    (ap₂ (λ (b : Bool) (n : ℕ). cond b 0 n) (same_cong _ _ _ _ (f S S' e) e) (loop-agree F F' g g' f h k (F S) (F' S') (f S S' e)))

module _ (M : Model) where
  count-agree : (φ : Form) (ρ ρ' : Env) → Agrees φ ρ ρ' → rounds M ρ φ ≡ rounds M ρ' φ
  unfolding rounds_by occ
  count-agree top ρ ρ' h = refl
  count-agree here ρ ρ' h = refl
  count-agree (label p) ρ ρ' h = refl
  count-agree (name n) ρ ρ' h = refl
  count-agree (var v) ρ ρ' h = refl
  count-agree (neg φ) ρ ρ' h = count-agree φ ρ ρ' (λ b v o. h (not b) v (twice b v φ o))
  count-agree (or φ ψ) ρ ρ' h =
      ap₂ ◌+◌ (count-agree φ ρ ρ' (λ b v o. h b v (or_l _ _ o))) (count-agree ψ ρ ρ' (λ b v o. h b v (or_r (occ b v φ) _ o)))
  count-agree (and φ ψ) ρ ρ' h =
      ap₂ ◌+◌ (count-agree φ ρ ρ' (λ b v o. h b v (or_l _ _ o))) (count-agree ψ ρ ρ' (λ b v o. h b v (or_r (occ b v φ) _ o)))
  count-agree (dia w φ) ρ ρ' h = count-agree φ ρ ρ' h
  count-agree (box w φ) ρ ρ' h = count-agree φ ρ ρ' h
  count-agree (mu v φ) ρ ρ' h =
      loop-agree _ _ _ _
      (λ S S' e. agree M φ (put ρ v S) (put ρ' v S') (under φ v ρ ρ' h S S' e))
      (λ S S' e. count-agree φ (put ρ v S) (put ρ' v S') (under φ v ρ ρ' h S S' e))
      enough none none (λ x l. refl)
  count-agree (nu v φ) ρ ρ' h =
      loop-agree _ _ _ _
      (λ S S' e. agree M φ (put ρ v S) (put ρ' v S') (under φ v ρ ρ' h S S' e))
      (λ S S' e. count-agree φ (put ρ v S) (put ρ' v S') (under φ v ρ ρ' h S S' e))
      enough full full (λ x l. refl)
  count-agree (slot n) ρ ρ' h = refl

  -- the rounds go by the slots of the free variables' sets alone, with no even rule: a number kept beside a set is right as long as the set is
  pub rounds-agree : (φ : Form) (ρ ρ' : Env) → ((v : ℕ) → free v φ ≡ true → ρ v ≐ ρ' v) → rounds M ρ φ ≡ rounds M ρ' φ
  rounds-agree φ ρ ρ' h = count-agree φ ρ ρ' (agrees_free φ ρ ρ' h)

  pub rounds-put : (φ : Form) (ρ : Env) (v : ℕ) (S S' : Set) → S ≐ S' → rounds M (put ρ v S) φ ≡ rounds M (put ρ v S') φ
  rounds-put φ ρ v S S' e = count-agree φ (put ρ v S) (put ρ v S') (under φ v ρ ρ (λ b u o x k. refl) S S' e)

  -- of a condition without a free variable they are the same under every valuation
  pub rounds-closed : (φ : Form) → ((v : ℕ) → free v φ ≡ false) → (ρ ρ' : Env) → rounds M ρ φ ≡ rounds M ρ' φ
  rounds-closed φ c ρ ρ' = rounds-agree φ ρ ρ' (λ v o. clash o (c v))
