-- The slots within k steps of the goal, round by round: D 0 is the goal's set S, and D (k + 1) is S and all slots from which the way leads
-- into D k.
use Rattle.std.specs.Prelude.{◌≡◌, ◌↔◌, ◌⊎◌, true, ◌&&◌, ◌||◌, refl, ℕ, zero, suc, ◌≤◌, ◌<◌}
use Rattle.std.proofs.Common.{◌∙◌, ap₂, arith, sym, ap, subst, inl, inr}
use Rattle.finite.proofs.Laws.Bools.{either, clash, and_in, and_l, and_r, or_l, or_r, or_out, both}
use Rattle.finite.proofs.Laws.Below.{any_in, any_out, any_cong}
use Rattle.limits.specs.Limits.{slots}
use Rattle.semantics.specs.Form.{Way}
use Rattle.semantics.specs.Holds.{Set, Model, step}
use Rattle.semantics.specs.Monotone.{◌⊆◌}
use Rattle.semantics.specs.FixedPoint.{iter, none}
use Rattle.semantics.proofs.Laws.FixedPoint.{settled}
use Rattle.semantics.specs.Agree.{◌≐◌}
use Rattle.chains.specs.Chain.{Chain, SomeChain}
use Rattle.chains.proofs.Laws.Chains.{before, chain_slot, chain_goal, chain_first, chain_here, chain_before, chain_rest}
use Rattle.chains.specs.Layers.{toward, within, Rest}

-- the highest slot's number, which is how many steps are enough
unfoldable pub last : ℕ
last = 255

pub slots-last : slots ≡ suc last
unfolding slots last
slots-last = refl

module _ (M : Model) (w : Way) (S : Set) where
  pub toward_here : (T : Set) (x : ℕ) → S x ≡ true → toward M w S T x ≡ true
  unfolding toward
  toward_here T x p = or_l _ _ p

  pub toward-step : (T : Set) (x t : ℕ) → t < slots → step M w x t ≡ true → T t ≡ true → toward M w S T x ≡ true
  unfolding toward
  toward-step T x t h p q = or_r (S x) _ (any_in slots _ t h (and_in p q))

  pub toward_out : (T : Set) (x : ℕ) → toward M w S T x ≡ true
      → (S x ≡ true) ⊎ ((t : ℕ) × (t < slots) × (step M w x t ≡ true) × (T t ≡ true))
  unfolding toward
  toward_out T x p =
      either (or_out (S x) _ p) inl (λ q. let r = any_out slots _ q in inr (r.0, r.1, and_l _ _ r.2, and_r (step M w x r.0) _ r.2))

  pub toward_grows : (T T' : Set) → T ⊆ T' → toward M w S T ⊆ toward M w S T'
  toward_grows T T' h x k p =
      either (toward_out T x p) (toward_here T' x) (λ r. toward-step T' x r.0 r.1 r.2 (h r.0 r.1 r.3))

  pub toward-agree : (T T' : Set) → T ≐ T' → toward M w S T ≐ toward M w S T'
  unfolding toward
  toward-agree T T' h x k = ap (◌||◌ (S x)) (any_cong slots _ _ (λ t l. ap (◌&&◌ (step M w x t)) (h t l)))

  pub within_start : within M w S 0 ≡ S
  unfolding within iter
  within_start = refl

  pub within-next : (k : ℕ) → within M w S (suc k) ≡ toward M w S (within M w S k)
  unfolding within iter
  within-next k = refl

  pub within_here : (k x : ℕ) → S x ≡ true → within M w S k x ≡ true
  within_here zero x p = rw within_start p
  within_here (suc k) x p = rw within-next (toward_here _ x p)

  from_none : (k : ℕ) → iter (suc k) (toward M w S) none ≐ within M w S k
  unfolding within iter toward none
  from_none zero x h = both (λ p. either (toward_out none x p) (λ q. q) (λ r. clash r.3 refl)) (toward_here none x)
  from_none (suc k) x h = toward-agree _ _ (from_none k) x h

  -- so it is after as many rounds as the highest slot's number
  pub rest-last : Rest M w S last
  unfolding Rest
  rest-last x h p =
      let rounds =
      subst (λ (n : ℕ). toward M w S (iter n (toward M w S) none) ⊆ iter n (toward M w S) none) slots-last (settled (toward M w S) toward_grows) in
      sym (from_none last x h) ∙ rounds x h (toward-agree _ _ (λ y l. from_none last y l) x h ∙ p)

  module _ (G : ℕ → Type 0) (lists : (t : ℕ) → t < slots → (S t ≡ true) ↔ G t) where
    -- a chain of at most k steps leads from them, and from no others
    pub within_chain : (k s : ℕ) → s < slots → within M w S k s ≡ true → (n : ℕ) × (n ≤ k) × (c : ℕ → ℕ) × Chain M w G s n c
    within_chain zero s h p = (0, omega arith, (λ i. s), chain_here s _ h refl ((lists s h).0 (rw within_start at p)))
    within_chain (suc k) s h p =
        either (toward_out (within M w S k) s (rw within-next at p))
        (λ q. (0, omega arith, (λ i. s), chain_here s _ h refl ((lists s h).0 q)))
        (λ r. let e = within_chain k r.0 r.1 r.3 in (suc e.0, omega (arith, e.1), before s e.2, chain_before h r.2 e.3))

    pub chain_within : (k n s : ℕ) (c : ℕ → ℕ) → Chain M w G s n c → n ≤ k → within M w S k s ≡ true
    chain_within k zero s c C h =
        within_here k s ((lists s (chain_slot C)).1 (chain_goal C))
    chain_within zero (suc n) s c C h = absurd (omega arith)
    chain_within (suc k) (suc n) s c C h =
        rw within-next (toward-step _ s (c (suc 0)) (C.is_slot 1 (omega arith)) (chain_first C)
        (chain_within k n (c (suc 0)) _ (chain_rest C) (omega arith)))

    -- the start of a chain of any length is in each set T that has the goal and all slots from which the way leads into T
    chain_kept : (T : Set) → toward M w S T ⊆ T → (n s : ℕ) (c : ℕ → ℕ) → Chain M w G s n c → T s ≡ true
    chain_kept T f zero s c C = f s (chain_slot C) (toward_here T s ((lists s (chain_slot C)).1 (chain_goal C)))
    chain_kept T f (suc n) s c C =
        f s (chain_slot C)
        (toward-step T s (c (suc 0)) (C.is_slot 1 (omega arith)) (chain_first C) (chain_kept T f n (c (suc 0)) _ (chain_rest C)))

    -- after a round that adds nothing they tell whether there is a chain
    pub some-within : (k : ℕ) → Rest M w S k → (s : ℕ) → s < slots → SomeChain M w G s ↔ (within M w S k s ≡ true)
    unfolding SomeChain Rest
    some-within k f s h = (
      λ C. chain_kept (within M w S k) f C.0 s C.1 C.2,
      λ p. let r = within_chain k s h p in (r.0, r.2, r.3),
    )

-- of the goal's set only the slots count
pub within_goal : (M : Model) (w : Way) (S S' : Set) → S ≐ S' → (k : ℕ) → within M w S k ≐ within M w S' k
unfolding within iter toward
within_goal M w S S' e zero x h = e x h
within_goal M w S S' e (suc k) x h =
    ap₂ ◌||◌ (e x h) (any_cong slots _ _ (λ t l. ap (◌&&◌ (step M w x t)) (within_goal M w S S' e k t l)))
