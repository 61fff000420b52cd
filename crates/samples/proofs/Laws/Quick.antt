-- The set of a condition, and the rounds that listing it makes, computed on a small site: only the first slots have links, so a diamond looks at
-- these alone.
use Rattle.std.specs.Prelude.{◌≡◌, Bool, true, cond, refl, not, ◌&&◌, ◌||◌, ℕ, zero, suc, ◌+◌, ◌≤◌, ◌<◌}
use Rattle.std.proofs.Math.Path.{fun_ext}
use Rattle.std.proofs.Common.{◌∙◌, arith, ap, ap₂}
use Rattle.finite.specs.Tests.{same, below, any, all}
use Rattle.finite.proofs.Laws.Bools.{either, look, both, and_l, or_out, or_l, not_out}
use Rattle.finite.proofs.Laws.Below.{below_in, below_out, any_in, any_out, any_cong, all_in, all_out, all_cong}
use Rattle.limits.specs.Limits.{slots}
use Rattle.semantics.specs.Form.{Way, along, against, every, Form, top, here, label, name, var, neg, or, and, dia, box, mu, nu, slot}
use Rattle.semantics.specs.Holds.{Set, Env, put, Model, step}
use Rattle.semantics.specs.Edit.{Valid}
use Rattle.semantics.specs.FixedPoint.{iter, none, full}
use Rattle.semantics.specs.Eval.{eval}
use Rattle.rounds.specs.Count.{rounds_by, loop, enough, rounds}

-- the slots that the examples use
unfoldable pub span : ℕ
span = 5

-- operations on sets. Each is a function of sets, so that a part which no slot changes, as the place of a name, is computed once
unfoldable pub always : Bool → Set
always b s = b

unfoldable pub at : ℕ → Set
at p s = same s p

unfoldable pub not_of : Set → Set
not_of S s = not (S s)

unfoldable pub or_of : Set → Set → Set
or_of S T s = S s || T s

unfoldable pub and_of : Set → Set → Set
and_of S T s = S s && T s

-- how far a link can lead from a slot: the slots that it leads to are below
unfoldable pub reach : ℕ → ℕ
reach s = cond (below s span) span 0

unfoldable pub any_next : (ℕ → Set) → Set → Set
any_next next S s = any (reach s) (λ t. next s t && S t)

unfoldable pub all_next : (ℕ → Set) → Set → Set
all_next next S s = all (reach s) (λ t. not (next s t) || S t)

unfoldable pub dia_of : Model → Way → Set → Set
dia_of M (along m) S = any_next (step M (along m)) S
dia_of M (against m) S = any_next (step M (against m)) S
dia_of M every S = always (any slots S)

unfoldable pub box_of : Model → Way → Set → Set
box_of M (along m) S = all_next (step M (along m)) S
box_of M (against m) S = all_next (step M (against m)) S
box_of M every S = always (all slots S)

-- k rounds of F from S, slot by slot: the rounds before are not made where a slot does not ask for them
unfoldable pub iter_at : ℕ → (Set → Set) → Set → Set
iter_at zero F S x = S x
iter_at (suc k) F S x = F (λ y. iter_at k F S y) x

at-iter : (k : ℕ) (F : Set → Set) (S : Set) → iter_at k F S ≡ iter k F S
unfolding iter_at iter
at-iter zero F S = refl
at-iter (suc k) F S = ap F (at-iter k F S)

comes_to : (S : Set) (F G : Set → Set) → ((T : Set) (x : ℕ) → F T x ≡ G T x) → (s : ℕ) → iter_at slots F S s ≡ iter slots G S s
comes_to S F G h s =
    ap (λ (T : Set). T s) (at-iter slots F S) ∙ ap (λ (H : Set → Set). iter slots H S s) (fun_ext (λ T. fun_ext (h T)))

-- the set of a condition, by those operations
unfoldable pub quick : Model → Env → Form → Set
quick M ρ top = always true
quick M ρ here = M.present
quick M ρ (label p) = M.marked p
quick M ρ (name n) = at (M.place n)
quick M ρ (var v) = ρ v
quick M ρ (neg φ) = not_of (quick M ρ φ)
quick M ρ (or φ ψ) = or_of (quick M ρ φ) (quick M ρ ψ)
quick M ρ (and φ ψ) = and_of (quick M ρ φ) (quick M ρ ψ)
quick M ρ (dia w φ) = dia_of M w (quick M ρ φ)
quick M ρ (box w φ) = box_of M w (quick M ρ φ)
quick M ρ (mu v φ) = iter_at slots (λ S. quick M (put ρ v S) φ) none
quick M ρ (nu v φ) = iter_at slots (λ S. quick M (put ρ v S) φ) full
quick M ρ (slot k) = at k

-- the rounds that listing a condition makes, by its sets so computed
abbrev pub quick_rounds : Model → Env → Form → ℕ
quick_rounds = rounds_by quick

-- the present slots are among the first
unfoldable pub few_slots : Model → Bool
few_slots M = all slots (λ s. not (M.present s) || below s span)

module _ (M : Model) (valid : Valid M) (few : few_slots M ≡ true) where
  near : (s : ℕ) → M.present s ≡ true → s < span
  unfolding few_slots
  near s p =
      either
      (or_out _ _ (all_out slots _ few s (valid.small s p)))
      (λ q. absurd (not_out _ q p))
      (λ q. below_out s span q)

  -- the slots that a link leads to, either way round
  Links : (ℕ → Set) → Type 0
  Links next = (s t : ℕ) → next s t ≡ true → (M.present s ≡ true) × (M.present t ≡ true)

  lead : (next : ℕ → Set) → Links next → (s t : ℕ) → next s t ≡ true → t < reach s
  unfolding Links reach
  lead next l s t p = rw (below_in s span (near s (l s t p).0)) (near t (l s t p).1)

  within : (s : ℕ) → reach s ≤ slots
  unfolding reach slots span
  within s = either (look (below s span)) (λ e. rw e (omega arith)) (λ e. rw e (omega arith))

  some_next : (next : ℕ → Set) → Links next → (S : Set) (s : ℕ) → any_next next S s ≡ any slots (λ t. next s t && S t)
  unfolding any_next
  some_next next l S s = both
      (λ p. let r = any_out (reach s) _ p in let w = within s in any_in slots _ r.0 (omega (arith, r.1)) r.2)
      (λ p. let r = any_out slots _ p in any_in (reach s) _ r.0 (lead next l s r.0 (and_l _ _ r.2)) r.2)

  all-next : (next : ℕ → Set) → Links next → (S : Set) (s : ℕ) → all_next next S s ≡ all slots (λ t. not (next s t) || S t)
  unfolding all_next
  all-next next l S s = both
      (λ p. all_in slots _ (λ t h. either (look (next s t))
      (λ q. all_out (reach s) _ p t (lead next l s t q))
      (λ q. or_l _ _ (ap not q))))
      (λ p. all_in (reach s) _ (λ t h. let w = within s in all_out slots _ p t (omega arith)))

  along_links : (m : ℕ) → Links (step M (along m))
  unfolding Links step
  along_links m s t p = ((valid.from m s t p).0, (valid.to m s t p).0)

  against_links : (m : ℕ) → Links (step M (against m))
  unfolding Links step
  against_links m s t p = ((valid.to m t s p).0, (valid.from m t s p).0)

  dia_in : (w : Way) (S : Set) (s : ℕ) → dia_of M w S s ≡ any slots (λ t. step M w s t && S t)
  unfolding dia_of always step
  dia_in (along m) S s = some_next (step M (along m)) (along_links m) S s
  dia_in (against m) S s = some_next (step M (against m)) (against_links m) S s
  dia_in every S s = refl

  box_in : (w : Way) (S : Set) (s : ℕ) → box_of M w S s ≡ all slots (λ t. not (step M w s t) || S t)
  unfolding box_of always step
  box_in (along m) S s = all-next (step M (along m)) (along_links m) S s
  box_in (against m) S s = all-next (step M (against m)) (against_links m) S s
  box_in every S s = refl

  pub quick-eval : (φ : Form) (ρ : Env) (s : ℕ) → quick M ρ φ s ≡ eval M ρ φ s
  unfolding quick eval always at not_of or_of and_of
  quick-eval top ρ s = refl
  quick-eval here ρ s = refl
  quick-eval (label p) ρ s = refl
  quick-eval (name n) ρ s = refl
  quick-eval (var v) ρ s = refl
  quick-eval (neg φ) ρ s = ap not (quick-eval φ ρ s)
  quick-eval (or φ ψ) ρ s = ap₂ ◌||◌ (quick-eval φ ρ s) (quick-eval ψ ρ s)
  quick-eval (and φ ψ) ρ s = ap₂ ◌&&◌ (quick-eval φ ρ s) (quick-eval ψ ρ s)
  quick-eval (dia w φ) ρ s =
      dia_in w (quick M ρ φ) s ∙ any_cong slots _ _ (λ t _. ap (λ b. step M w s t && b) (quick-eval φ ρ t))
  quick-eval (box w φ) ρ s =
      box_in w (quick M ρ φ) s ∙ all_cong slots _ _ (λ t _. ap (λ b. not (step M w s t) || b) (quick-eval φ ρ t))
  quick-eval (mu v φ) ρ s =
      comes_to none (λ S. quick M (put ρ v S) φ) (λ S. eval M (put ρ v S) φ) (λ S x. quick-eval φ (put ρ v S) x) s
  quick-eval (nu v φ) ρ s =
      comes_to full (λ S. quick M (put ρ v S) φ) (λ S. eval M (put ρ v S) φ) (λ S x. quick-eval φ (put ρ v S) x) s
  quick-eval (slot k) ρ s = refl

  -- a loop's rounds, by its body's sets and the rounds inside
  loop-rounds : (φ : Form) (ρ : Env) (v : ℕ) (start : Set) → ((ρ : Env) → quick_rounds M ρ φ ≡ rounds M ρ φ)
      → loop enough (λ S. quick M (put ρ v S) φ) (λ S. quick_rounds M (put ρ v S) φ) start
      ≡ loop enough (λ S. eval M (put ρ v S) φ) (λ S. rounds M (put ρ v S) φ) start
  loop-rounds φ ρ v start same =
      ap₂ (λ (F : Set → Set) (g : Set → ℕ). loop enough F g start)
      (fun_ext (λ S. fun_ext (λ x. quick-eval φ (put ρ v S) x))) (fun_ext (λ S. same (put ρ v S)))

  pub quick-rounds : (φ : Form) (ρ : Env) → quick_rounds M ρ φ ≡ rounds M ρ φ
  unfolding rounds_by
  quick-rounds top ρ = refl
  quick-rounds here ρ = refl
  quick-rounds (label p) ρ = refl
  quick-rounds (name n) ρ = refl
  quick-rounds (var v) ρ = refl
  quick-rounds (neg φ) ρ = quick-rounds φ ρ
  quick-rounds (or φ ψ) ρ = ap₂ ◌+◌ (quick-rounds φ ρ) (quick-rounds ψ ρ)
  quick-rounds (and φ ψ) ρ = ap₂ ◌+◌ (quick-rounds φ ρ) (quick-rounds ψ ρ)
  quick-rounds (dia w φ) ρ = quick-rounds φ ρ
  quick-rounds (box w φ) ρ = quick-rounds φ ρ
  quick-rounds (mu v φ) ρ = loop-rounds φ ρ v none (quick-rounds φ)
  quick-rounds (nu v φ) ρ = loop-rounds φ ρ v full (quick-rounds φ)
  quick-rounds (slot k) ρ = refl
