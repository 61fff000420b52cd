-- The condition mu 15 (goal or diamond variable 15) lists the start exactly if there is a chain.
use Rattle.std.specs.Prelude.{◌≡◌, ◌↔◌, ◌⊎◌, Bool, true, false, ◌||◌, ℕ, zero, suc, ◌<◌}
use Rattle.std.proofs.Common.{sym, ◌∙◌, subst, inl, inr, arith}
use Rattle.finite.proofs.Laws.Bools.{either, look, clash, no_true, or_l, or_r, not_out}
use Rattle.finite.proofs.Laws.Below.{all_out}
use Rattle.limits.specs.Limits.{slots, variables}
use Rattle.semantics.specs.Form.{Way, Form, occ, free, closed}
use Rattle.semantics.specs.Holds.{Set, Env, put, Model, Holds}
use Rattle.semantics.proofs.Laws.Monotone.{put_same, put_other, coincide}
use Rattle.semantics.specs.Eval.{eval}
use Rattle.semantics.proofs.Laws.Eval.{even_tree, eval-holds}
use Rattle.chains.specs.Chain.{Chain, SomeChain, Shortest, ReachedSet, leads}
use Rattle.chains.proofs.Laws.Chains.{chain_slot, chain_goal, chain_first, chain_rest}
use Rattle.chains.specs.Layers.{within, Rest}
use Rattle.chains.proofs.Laws.Layers.{last, toward-step, within_here, rest-last, some-within}
use Rattle.chains.proofs.Laws.Shortest.{shortest_some}
use Rattle.chains.specs.Reached.{onward}
use Rattle.chains.proofs.Laws.Reached.{onward-last}

-- the variable of the loop is not one of the goal's
goal_kept : (M : Model) (ρ : Env) (φ : Form) → free 15 φ ≡ false → (T : Set) (s : ℕ) → s < slots → Holds M (put ρ 15 T) φ s ↔ Holds M ρ φ s
unfolding free
goal_kept M ρ φ f T =
    coincide M φ (put ρ 15 T) ρ (λ b v o x l. put_other ρ T x (λ e. clash (go b (subst (λ (u : ℕ). occ b u φ ≡ true) e o)) f))
  where
    go : (b : Bool) → occ b 15 φ ≡ true → (occ true 15 φ || occ false 15 φ) ≡ true
    go true o = or_l _ _ o
    go false o = or_r (occ true 15 φ) _ o

pub closed-free : (φ : Form) → closed φ ≡ true → (v : ℕ) → v < variables → free v φ ≡ false
unfolding closed
closed-free φ c v l = no_true (not_out _ (all_out variables _ c v l))

module _ (M : Model) (ρ : Env) (w : Way) (φ : Form) (fresh : free 15 φ ≡ false) where
  -- a chain's start is in every set that the loop's body keeps
  chain_leads : (n s : ℕ) (c : ℕ → ℕ) → Chain M w (Holds M ρ φ) s n c → Holds M ρ (leads w φ) s
  unfolding leads Holds
  chain_leads zero s c C T f =
      f s (chain_slot C) (inl ((goal_kept M ρ φ fresh T s (chain_slot C)).1 (chain_goal C)))
  chain_leads (suc n) s c C T f =
      let rest = put_same ρ 15 T _ ∙ chain_leads n (c (suc 0)) _ (chain_rest C) T f in
      f s (chain_slot C) (inr (c (suc 0), C.is_slot 1 (omega arith), chain_first C, rest))

  module _ (S : Set) (lists : (t : ℕ) → t < slots → (S t ≡ true) ↔ Holds M ρ φ t) where
    -- and the slots within 255 steps are one
    leads-within : (s : ℕ) → Holds M ρ (leads w φ) s → within M w S last s ≡ true
    unfolding leads Holds Rest
    leads-within s p =
        p (within M w S last) (λ x l q. either q
        (λ a. within_here M w S last x ((lists x l).1 ((goal_kept M ρ φ fresh _ x l).0 a)))
        (λ r. rest-last M w S x l (toward-step M w S _ x r.0 r.1 r.2 (sym (put_same ρ 15 _ _) ∙ r.3))))

    pub listed_chain : (s : ℕ) → s < slots → Holds M ρ (leads w φ) s ↔ SomeChain M w (Holds M ρ φ) s
    unfolding SomeChain
    listed_chain s h = (
      λ p. (some-within M w S _ lists last (rest-last M w S) s h).1 (leads-within s p),
      λ C. chain_leads C.0 s C.1 C.2,
    )

-- for a goal that keeps the even rule and has no free variable, as each accepted condition does
module _ (M : Model) (ρ : Env) (w : Way) (φ : Form) (even : even_tree φ ≡ true) where
  -- the condition lists the start exactly if there is a chain
  pub leads_chain : closed φ ≡ true → (s : ℕ) → s < slots → Holds M ρ (leads w φ) s ↔ SomeChain M w (Holds M ρ φ) s
  leads_chain c = listed_chain M ρ w φ (closed-free φ c 15 (omega arith)) (eval M ρ φ) (eval-holds M φ even ρ)

  -- there is always one of the two answers
  pub chain_or_set : (s : ℕ) → s < slots
      → ((n : ℕ) × (c : ℕ → ℕ) × Shortest M w (Holds M ρ φ) s n c) ⊎ ((¬ SomeChain M w (Holds M ρ φ) s) × ((R : Set) × ReachedSet M w s R))
  chain_or_set s h =
      let S = eval M ρ φ in
      let lists = eval-holds M φ even ρ in
      either (look (within M w S last s))
      (λ p. inl ((shortest_some M w S _ lists s h).0 ((some-within M w S _ lists last (rest-last M w S) s h).1 p)))
      (λ p. inr (λ C. clash ((some-within M w S _ lists last (rest-last M w S) s h).0 C) p, (onward M w s last, onward-last M w s h)))
