-- A monotone map of sets of slots, applied again and again from the empty set, comes to rest after at most as many rounds as there are
-- slots, at its least fixed point; and from the full set at its greatest.
use Rattle.std.specs.Prelude.{◌≡◌, ◌⊎◌, false, not, ◌||◌, refl, true, ℕ, zero, suc, ◌≤◌, ◌<◌}
use Rattle.std.proofs.Math.Path.{fun_ext}
use Rattle.std.proofs.Common.{◌∙◌, arith, ap, inl, inr}
use Rattle.std.proofs.Math.Bool.{not-not}
use Rattle.finite.specs.Tests.{all, count}
use borrow.Author.Tests.{not-false}
use Rattle.finite.proofs.Laws.Bools.{either, look, clash, or_out, not_in, not_out, imp_fails}
use Rattle.finite.proofs.Laws.Below.{all_out, all_fails}
use Rattle.finite.proofs.Laws.Count.{count_more, count-full}
use Rattle.limits.specs.Limits.{slots}
use Rattle.semantics.specs.Holds.{Set}
use Rattle.semantics.specs.Monotone.{◌⊆◌}
use Rattle.semantics.specs.FixedPoint.{iter, none, full}

-- a set inside another, or a slot of the first that is not in the second
pub inside? : (S S' : Set) → (S ⊆ S') ⊎ ((x : ℕ) × (x < slots) × (S x ≡ true) × (S' x ≡ false))
inside? S S' =
    either
    (look (all slots (λ x. not (S x) || S' x)))
    (λ e. inl (λ x k p. either (or_out _ _ (all_out slots _ e x k)) (λ q. absurd (not_out _ q p)) (λ q. q)))
    (λ e. let r = all_fails slots _ e in let i = imp_fails _ _ r.2 in inr (r.0, r.1, i.0, i.1))

module _ (F : Set → Set) (grows : (S S' : Set) → S ⊆ S' → F S ⊆ F S') where
  rise : (k : ℕ) → iter k F none ⊆ iter (suc k) F none
  unfolding iter none
  rise zero x h p = clash p refl
  rise (suc k) x h p = grows _ _ (rise k) x h p

  settle : (k : ℕ) → (iter (suc k) F none ⊆ iter k F none) ⊎ (k ≤ count slots (iter k F none))
  unfolding iter
  settle zero = inr (omega arith)
  settle (suc k) =
      either
      (settle k)
      (λ h. inl (grows _ _ h))
      (λ h. either
      (inside? (iter (suc k) F none) (iter k F none))
      (λ g. inl (grows _ _ g))
      (λ g. inr (omega (arith, count_more slots (iter k F none) (iter (suc k) F none) (rise k) g.0 g.1 g.3 g.2))))

  -- after as many rounds as there are slots nothing is added
  pub settled : F (iter slots F none) ⊆ iter slots F none
  unfolding iter
  settled =
      either (settle slots) (λ h. h) (λ h x k p. count-full slots (iter slots F none) h x k)

  -- F comes to rest at a set inside every set that F keeps inside itself
  pub least : (S : Set) → F S ⊆ S → (k : ℕ) → iter k F none ⊆ S
  unfolding iter none
  least S h zero x l p = clash p refl
  least S h (suc k) x l p = h x l (grows _ _ (least S h k) x l p)

-- The rounds from the full set, which come to rest at the greatest fixed point: by complements.
co : Set → Set
co S x = not (S x)

module _ (F : Set → Set) (grows : (S S' : Set) → S ⊆ S' → F S ⊆ F S') where
  dual : Set → Set
  dual S = co (F (co S))

  dual_grows : (S S' : Set) → S ⊆ S' → dual S ⊆ dual S'
  unfolding dual co
  dual_grows S S' h x k p =
      not_in (λ q. not_out _ p (grows (co S') (co S) (λ y l a. not_in (λ b. not_out _ a (h y l b))) x k q))

  co_iter : (k : ℕ) → co (iter k dual none) ≡ iter k F full
  unfolding iter none full dual co
  co_iter zero = refl
  co_iter (suc k) = fun_ext (λ x. not-not _) ∙ ap F (co_iter k)

  pub settled_full : iter slots F full ⊆ F (iter slots F full)
  unfolding co iter
  settled_full x k p =
      either
      (look (iter (suc slots) F full x))
      (λ e. e)
      (λ e.
      let up : iter (suc slots) dual none x ≡ true = not-false _ (ap (λ (S : Set). S x) (co_iter (suc slots)) ∙ e) in
      let down : iter slots dual none x ≡ true = settled dual dual_grows x k up in
      absurd (not_out _ (ap (λ (S : Set). S x) (co_iter slots) ∙ p) down))

  pub greatest : (S : Set) → S ⊆ F S → (k : ℕ) → S ⊆ iter k F full
  unfolding iter full
  greatest S h zero x l p = refl
  greatest S h (suc k) x l p = grows _ _ (greatest S h k) x l (h x l p)
