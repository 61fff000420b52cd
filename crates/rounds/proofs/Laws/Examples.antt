-- Worked examples: loops of one and two rounds, and the condition R on a chain of places, which adds one place a round.
use Rattle.std.specs.Prelude.{◌≡◌, ◌↔◌, [], ◌∷◌, true, false, not, ◌&&◌, refl, ℕ, zero, suc, ◌+◌, ◌-◌, ◌≤◌, ◌<◌}
use Rattle.std.proofs.Math.Path.{fun_ext}
use Rattle.std.proofs.Common.{sym, ◌∙◌, subst, inl, inr, arith}
use Rattle.finite.specs.Tests.{same, below}
use Rattle.finite.proofs.Laws.Bools.{either, clash, no_true, and_in, and_l, and_r, not_in, not_out}
use Rattle.finite.proofs.Laws.Below.{same_eq, eq_same, below_in, below_out, equal?}
use Rattle.limits.specs.Limits.{slots}
use Rattle.semantics.specs.Form.{along, Form, top, label, var, neg, or, dia, mu}
use Rattle.semantics.specs.Holds.{Set, Env, put, Model, step, Holds}
use Rattle.semantics.specs.Table.{node, kind_of, atom, one, two, build, tree, trees, tree_at, form_of}
use Rattle.semantics.proofs.Laws.Monotone.{put_same}
use Rattle.rounds.specs.Makes.{SetOf, Loop, last, more, Makes}
use Rattle.rounds.specs.Count.{enough}

-- the empty set comes back at once
pub mu_false : (M : Model) (ρ : Env) (v : ℕ) → Makes M ρ (mu v (neg top)) 1
unfolding Makes Holds SetOf
mu_false M ρ v = last (λ x k. (λ p. clash p refl, λ p. absurd (p tt))) refl

-- the full set comes back after one round
pub mu_true : (M : Model) (ρ : Env) (v : ℕ) → Makes M ρ (mu v top) 2
unfolding Makes Holds SetOf slots
mu_true M ρ v =
    let first : 0 < slots = omega arith in
    more {T = λ x. true} (λ h. clash ((h 0 first).1 tt) refl) (λ x k. (λ p. tt, λ p. refl)) refl (last (λ x k. (λ p. tt, λ p. refl)) refl)

-- an inner loop starts again in each round of the outer one: two rounds, and two inside each
pub mu_mu_true : (M : Model) (ρ : Env) → Makes M ρ (mu 1 (mu 0 top)) 6
unfolding Makes Holds SetOf slots
mu_mu_true M ρ =
    let first : 0 < slots = omega arith in
    more {T = λ x. true} (λ h. clash ((h 0 first).1 (λ T g. g 0 first tt)) refl) (λ x k. (λ p T g. g x k tt, λ p. refl))
    (mu_true M (put ρ 1 (λ x. false)) 0)
    (last (λ x k. (λ p T g. g x k tt, λ p. refl)) (mu_true M (put ρ 1 (λ x. true)) 0))

-- a shared node counts once for each path: true, mu 0 of it, and that loop or itself
pub mu_twice : (M : Model) (ρ : Env) → Makes M ρ (form_of (node 0 0 0 0 ∷ node 10 0 0 0 ∷ node 6 0 1 1 ∷ [])) 4
unfolding Makes form_of tree_at trees tree build kind_of atom one two
mu_twice M ρ = (2, 2, mu_true M ρ 0, mu_true M ρ 0, refl)

-- mu 0 (label 0 or diamond 4 variable 0)
abbrev pub body_r : Form
body_r = or (label 0) (dia (along 4) (var 0))

abbrev pub R : Form
R = mu 0 body_r

-- the places from a on, k of them
run : ℕ → ℕ → Set
run a k x = not (below x a) && below x (a + k)

run_in : (a k x : ℕ) → a ≤ x → x < a + k → run a k x ≡ true
unfolding run
run_in a k x l u = and_in (not_in (λ p. let h = below_out x a p in omega arith)) (below_in x (a + k) u)

run_from : (a k x : ℕ) → run a k x ≡ true → a ≤ x
unfolding run
run_from a k x p = let h : ¬ (x < a) = λ l. not_out _ (and_l _ _ p) (below_in x a l) in omega arith

run_to : (a k x : ℕ) → run a k x ≡ true → x < a + k
unfolding run
run_to a k x p = below_out x (a + k) (and_r (not (below x a)) _ p)

-- label 0 is on place a alone, and link 4 leads from each place after a, up to b, to the one before it
pub record Chain (M : Model) (a b : ℕ) : Type 0 where
  pub ends : a ≤ b
  pub slots_hold : b < slots
  pub marked : (x : ℕ) → (M.marked 0 x ≡ true) ↔ (x ≡ a)
  pub linked : (s t : ℕ) → (M.link 4 s t ≡ true) ↔ ((s ≡ suc t) × (a ≤ t) × (t < b))

module _ (M : Model) (ρ : Env) (a b : ℕ) (c : Chain M a b) where
  Body : Set → ℕ → Type 0
  Body S = Holds M (put ρ 0 S) body_r

  Inner : Set → ℕ → Type 0
  Inner S = Makes M (put ρ 0 S) body_r

  -- what a round makes of the first k places
  body_of : (k x : ℕ) → Body (run a k) x ↔ ((a ≤ x) × (x ≤ a + k) × (x ≤ b))
  unfolding Body Holds step
  body_of k x = (
    λ p. either p
        (λ m. let e = (c.marked x).0 m in omega (arith, c.ends))
        (λ d. let l = (c.linked x d.0).0 d.2 in let u = run_to a k d.0 (sym (put_same ρ 0 (run a k) d.0) ∙ d.3) in omega (arith, l.0, l.1, l.2)),
    λ q. either (equal? x a)
        (λ e. inl ((c.marked x).1 e))
        (λ n.
        let e : x ≡ suc (x - 1) = omega (arith, q.0) in
        inr (x - 1, omega (arith, c.slots_hold, q.2), (c.linked x (x - 1)).1 (e, omega (arith, q.0), omega (arith, q.2)), put_same ρ 0 (run a k) (x - 1) ∙ run_in a k (x - 1) (omega (arith, q.0)) (omega (arith, q.1)))),
  )

  grown : (k : ℕ) → a + k ≤ b → SetOf (Body (run a k)) (run a (suc k))
  unfolding SetOf
  grown k l x h = (
    λ p. let u = run_to a (suc k) x p in (body_of k x).1 (run_from a (suc k) x p, omega arith, omega arith),
    λ p. let q = (body_of k x).0 p in run_in a (suc k) x q.0 (omega (arith, q.1)),
  )

  whole : (k : ℕ) → a + k ≡ suc b → SetOf (Body (run a k)) (run a k)
  unfolding SetOf
  whole k e x h = (
    λ p. let u = run_to a k x p in (body_of k x).1 (run_from a k x p, omega arith, omega arith),
    λ p. let q = (body_of k x).0 p in run_in a k x q.0 (omega (arith, q.2)),
  )

  moves : (k : ℕ) → a + k ≤ b → ¬ SetOf (Body (run a k)) (run a k)
  unfolding SetOf
  moves k l h =
      let x = a + k in
      let u = run_to a k x ((h x (omega (arith, c.slots_hold))).1 ((body_of k x).1 (omega arith, omega arith, omega arith))) in
      omega arith

  -- d places are left
  from : (d k : ℕ) → a + k + d ≡ suc b → Loop Body Inner (run a k) (1 + d)
  unfolding Makes Inner
  from zero k e = last (whole k (omega arith)) (0, 0, refl, refl, refl)
  from (suc d) k e =
      let n : 1 + 0 + (1 + d) ≡ 1 + suc d = omega arith in
      subst (λ (i : ℕ). Loop Body Inner (run a k) i) n (more (moves k (omega arith)) (grown k (omega arith)) (0, 0, refl, refl, refl) (from d (suc k) (omega arith)))

  none_yet : run a 0 ≡ (λ (x : ℕ). false)
  none_yet = fun_ext (λ x. no_true (λ p. let l = run_from a 0 x p in let u = run_to a 0 x p in omega arith))

  -- a round for each place, and the last, which adds none
  pub chain_makes : (n : ℕ) → a + n ≡ b + 2 → Makes M ρ R n
  unfolding Makes Body Inner
  chain_makes n e =
      let d = suc b - a in
      let m : 1 + d ≡ n = omega (arith, c.ends) in
      subst (λ (S : Set). Loop Body Inner S n) none_yet (subst (λ (i : ℕ). Loop Body Inner (run a 0) i) m (from d 0 (omega (arith, c.ends))))

-- such a site: label 0 on a, and link 4 from each place after a, up to b, to the one before it
pub chain_site : ℕ → ℕ → Model
chain_site a b = record {
  present = λ s. true;
  marked = λ p s. same p 0 && same s a;
  place = λ y. 0;
  link = λ m s t. same m 4 && (same s (suc t) && (not (below t a) && below t b));
}

chain_site_lem : (a b : ℕ) → a ≤ b → b < slots → Chain (chain_site a b) a b
unfolding chain_site same
chain_site_lem a b l h =
    record {
      ends = l;
      slots_hold = h;
      marked = λ x. (λ p. same_eq p, λ p. eq_same p);
      linked = λ s t. (
        λ p.
            let q = and_r (same s (suc t)) _ p in
            (same_eq (and_l _ _ p), (let n : ¬ (t < a) = λ g. not_out _ (and_l _ _ q) (below_in t a g) in omega arith), below_out t b (and_r (not (below t a)) _ q)),
        λ p. and_in (eq_same p.0) (and_in (not_in (λ q. let g = below_out t a q in omega (arith, p.1))) (below_in t b p.2)),
      );
    }

-- no smaller bound would do: a loop can need one evaluation more than there are slots
pub longest : (ρ : Env) → Makes (chain_site 0 255) ρ R enough
unfolding slots
longest ρ = chain_makes (chain_site 0 255) ρ 0 255 (chain_site_lem 0 255 (omega arith) (omega arith)) _ refl
