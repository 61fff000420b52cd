-- The slots that can be reached from s: the least set that holds s and is closed under the way.
use Rattle.std.specs.Prelude.{◌≡◌, ◌↔◌, true, refl, ℕ, zero, suc, ◌+◌, ◌<◌}
use Rattle.std.proofs.Common.{◌∙◌, subst, arith, sym}
use Rattle.finite.specs.Tests.{same}
use Rattle.finite.proofs.Laws.Bools.{either, both}
use Rattle.finite.proofs.Laws.Below.{same_eq, same_refl}
use Rattle.limits.specs.Limits.{slots}
use Rattle.semantics.specs.Form.{Way, along, against, every}
use Rattle.semantics.specs.Holds.{Set, Model, step}
use Rattle.semantics.specs.Monotone.{◌⊆◌}
use Rattle.semantics.specs.Agree.{◌≐◌}
use Rattle.chains.specs.Chain.{Chain, SomeChain, Reached, ReachedSet}
use Rattle.chains.proofs.Laws.Chains.{before, chain_slot, chain_first, chain_here, chain_before, chain_rest, chain_join, chain_to}
use Rattle.chains.specs.Layers.{Rest}
use Rattle.chains.proofs.Laws.Layers.{last, toward_out, toward-step, within_start, within-next, within_here, rest-last}
use Rattle.chains.specs.Reached.{reverse, onward}

module _ (M : Model) (w : Way) (s : ℕ) where
  -- the start can be reached, and what is a step from what can
  pub reached_start : s < slots → Reached M w s s
  unfolding Reached SomeChain
  reached_start h = (0, (λ i. s), chain_here s _ h refl refl)

  pub reached_step : (t u : ℕ) → Reached M w s t → u < slots → step M w t u ≡ true → Reached M w s u
  unfolding Reached SomeChain
  reached_step t u C h p =
      let end : Chain M w (λ x. x ≡ u) u 0 (λ i. u) = chain_here u _ h refl refl in
      let n = C.0 in
      let c = C.1 in
      let l = C.2.is_slot n (omega arith) in
      let r = chain_join C.2 (λ x. x ≡ u) n 1 (before (c n) (λ i. u)) (omega arith) (chain_before l (rw C.2.goal p) end) in
      (n + 1, r.0, r.1)

  -- of a set only the slots count, and there is one such set
  pub reached_same : (R R' : Set) → R ≐ R' → ReachedSet M w s R → ReachedSet M w s R'
  unfolding ReachedSet
  reached_same R R' e r t l = (λ p. (r t l).0 (e t l ∙ p), λ C. sym (e t l) ∙ (r t l).1 C)

  pub reached_one : (R R' : Set) → ReachedSet M w s R → ReachedSet M w s R' → R ≐ R'
  unfolding ReachedSet
  reached_one R R' r r' t l = both (λ p. (r' t l).1 ((r t l).0 p)) (λ p. (r t l).1 ((r' t l).0 p))

-- T is closed under the way
unfoldable pub Closed : Model → Way → Set → Type 0
Closed M w T = (t u : ℕ) → t < slots → u < slots → step M w t u ≡ true → T t ≡ true → T u ≡ true

-- R is the least set that holds s and is closed under the way
pub record Closure (M : Model) (w : Way) (s : ℕ) (R : Set) : Type 0 where
  pub start : R s ≡ true
  pub closed : Closed M w R
  pub least : (T : Set) → T s ≡ true → Closed M w T → R ⊆ T

-- what can be reached is in every closed set with s
pub reached_least : (M : Model) (w : Way) (T : Set) → Closed M w T → (s t : ℕ) → T s ≡ true → Reached M w s t → T t ≡ true
unfolding Closed Reached SomeChain
reached_least M w T f s t p C = go C.0 s C.1 p C.2
  where
    go : (n s : ℕ) (c : ℕ → ℕ) → T s ≡ true → Chain M w (λ x. x ≡ t) s n c → T t ≡ true
    go zero s c p C = subst (λ (x : ℕ). T x ≡ true) (sym C.start ∙ C.goal) p
    go (suc n) s c p C =
        go n (c (suc 0)) _
        (f s (c (suc 0)) (chain_slot C) (C.is_slot 1 (omega arith)) (chain_first C) p)
        (chain_rest C)

pub step-reverse : (M : Model) (w : Way) (s t : ℕ) → step M (reverse w) s t ≡ step M w t s
unfolding step reverse
step-reverse M (along m) s t = refl
step-reverse M (against m) s t = refl
step-reverse M every s t = refl

module _ (M : Model) (w : Way) (s : ℕ) (h : s < slots) where
  onward_reached : (k t : ℕ) → t < slots → onward M w s k t ≡ true → Reached M w s t
  unfolding onward
  onward_reached zero t l p = let e : t ≡ s = same_eq (rw within_start at p) in rw e (reached_start M w s h)
  onward_reached (suc k) t l p =
      either (toward_out M (reverse w) _ (onward M w s k) t (rw within-next at p))
      (λ q. let e : t ≡ s = same_eq q in rw e (reached_start M w s h))
      (λ r. reached_step M w s r.0 t (onward_reached k r.0 r.1 r.3) l (sym (step-reverse M w t r.0) ∙ r.2))

  onward-closed : (k : ℕ) → Rest M (reverse w) (λ t. same t s) k → Closed M w (onward M w s k)
  unfolding Closed Rest onward
  onward-closed k f t u h l p q = f u l (toward-step M (reverse w) _ (onward M w s k) u t h (step-reverse M w u t ∙ p) q)

  -- after a round that adds nothing it is the set of all slots that can be reached
  pub onward-rest : (k : ℕ) → Rest M (reverse w) (λ t. same t s) k → ReachedSet M w s (onward M w s k)
  unfolding ReachedSet onward
  onward-rest k f t l = (
    onward_reached k t l,
    reached_least M w (onward M w s k) (onward-closed k f) s t (within_here M (reverse w) _ k s (same_refl s)),
  )

  pub onward-last : ReachedSet M w s (onward M w s last)
  onward-last = onward-rest last (rest-last M (reverse w) _)

  closure_of : (R : Set) → ReachedSet M w s R → Closure M w s R
  unfolding ReachedSet Closed
  closure_of R r = record {
    start = (r s h).1 (reached_start M w s h);
    closed = λ t u k l p q. (r u l).1 (reached_step M w s t u ((r t k).0 q) l p);
    least = λ T p f x k q. reached_least M w T f s x p ((r x k).0 q);
  }

  -- the slots that can be reached are the least closed set with s, and no other set is
  pub reached_closure : (R : Set) → ReachedSet M w s R ↔ Closure M w s R
  unfolding ReachedSet
  reached_closure R = (
    closure_of R,
    λ c t l. (
      λ p. let o = closure_of (onward M w s last) onward-last in (onward-last t l).0 (c.least _ o.start o.closed t l p),
      reached_least M w R c.closed s t c.start,
    ),
  )

  -- there is no chain exactly if no slot that can be reached is a goal slot
  pub no_chain : (G : ℕ → Type 0) (R : Set) → ReachedSet M w s R → (¬ SomeChain M w G s) ↔ ((t : ℕ) → t < slots → R t ≡ true → ¬ G t)
  unfolding ReachedSet Reached SomeChain
  no_chain G R r = (
    λ n t l p g. let C = (r t l).0 p in n (C.0, C.1, chain_to C.2 G (rw C.2.goal g)),
    λ f C.
        let l = C.2.is_slot C.0 (omega arith) in
        f _ l ((r _ l).1 (C.0, C.1, chain_to C.2 _ refl)) C.2.goal,
  )
