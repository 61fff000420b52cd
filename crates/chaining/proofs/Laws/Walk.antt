-- The walk from the start.
use Rattle.std.specs.Prelude.{◌≡◌, refl, ◌↔◌, List, [], true, false, ◌&&◌, set, replicate, ℕ, zero, suc, ◌+◌, ◌-◌, ◌≤◌, ◌<◌, length, get_or}
use Rattle.std.proofs.Common.{◌∙◌, ap, subst, sym, add-one, arith, length-set, get_or-set_same, get_or-set_other}
use Rattle.std.proofs.lemmas.List.{length-replicate}
use Rattle.finite.specs.Tests.{same, any, first}
use Rattle.finite.proofs.Laws.Bools.{either}
use Rattle.finite.proofs.Laws.First.{first-none}
use Rattle.finite.proofs.Laws.Below.{equal?, same_refl}
use Rattle.bitset.specs.Set.{set_slots, has}
use Rattle.limits.specs.Limits.{slots}
use Rattle.semantics.specs.Form.{Way}
use Rattle.semantics.specs.Holds.{Set, Model, step}
use Rattle.chains.specs.Given.{chain_bytes, ChainGiven}
use Rattle.chains.specs.Shortest.{Away, next}
use Rattle.chains.proofs.Laws.Shortest.{next_is, Descends, descends_shortest}
use Rattle.chains.proofs.Laws.Layers.{within_here}
use Rattle.chains.specs.Reached.{reverse, onward}
use Rattle.chains.specs.Directed.{Layered}
use Rattle.chains.proofs.Laws.Directed.{onward-step}
use Rattle.chains.proofs.Laws.Loops.{next_lowest}
use Rattle.chaining.specs.Rounds.{set_no}
use Rattle.chaining.specs.Walk.{Walking, Walked}

zero-at : (n j : ℕ) → ◌≡◌ {A = ℕ} (get_or (replicate n 0) j 0) 0
zero-at zero j = refl
zero-at (suc n) zero = refl
zero-at (suc n) (suc j) = zero-at n j

pub zeros_length : {chain : List ℕ} → chain ≡ replicate chain_bytes 0 → length chain ≡ chain_bytes
zeros_length e = ap length e ∙ length-replicate {A = ℕ} chain_bytes 0

pub walk_start : {M : Model} {w : Way} {S : Set} {s n : ℕ} {chain : List ℕ} → chain ≡ replicate chain_bytes 0 → Away M w S n s
    → Walking M w S s n (set chain 0 s) 0
unfolding onward
walk_start {s = s} {n = n} {chain = chain} e a =
    let len = zeros_length e in
    let whole : n - 0 ≡ n = omega arith in
    record {
      size = length-set chain 0 s ∙ len;
      first_slot = get_or-set_same chain 0 s 0 (omega arith);
      goes = λ j l. absurd (omega arith);
      left = rw (whole, get_or-set_same chain 0 s 0 (omega arith)) a;
      on_track = within_here _ _ _ 0 _ (rw (get_or-set_same chain 0 s 0 (omega arith)) (same_refl s));
      zeros = λ j l. get_or-set_other chain 0 j s 0 (λ q. omega arith) ∙ ap (λ (b : List ℕ). get_or b j 0) e ∙ zero-at chain_bytes j;
    }

module _ {M : Model} {w : Way} {S : Set} {s n : ℕ} {chain : List ℕ} {i : ℕ} (k : Walking M w S s n chain i) (l : i < n) where
  -- the slot behind the last
  next_slot : ℕ
  next_slot = next M w S (n - suc i) (get_or chain i 0)

  next_slot_is : (next_slot < slots) × (step M w (get_or chain i 0) next_slot ≡ true) × Away M w S (n - suc i) next_slot
  unfolding next_slot
  next_slot_is =
      let count : n - i ≡ suc (n - suc i) = omega arith in
      next_is M w S (n - suc i) (get_or chain i 0) (subst (λ (j : ℕ). Away M w S j (get_or chain i 0)) count k.left)

  -- t is it
  module _ {t : ℕ} (e : t ≡ next M w S (n - suc i) (get_or chain i 0)) where
    pub walk_small : t < set_slots
    unfolding slots next_slot
    walk_small = rw e next_slot_is.0

    pub walk_more : get_or chain i 0 < set_slots → n < set_slots → Walking M w S s n (set chain (i + 1) t) (i + 1)
    unfolding next_slot slots
    walk_more here small =
        let room : i + 1 < length chain = omega (arith, k.size) in
        let kept : (j : ℕ) → j < i + 1 → get_or (set chain (i + 1) t) j 0 ≡ get_or chain j 0 = λ j q. get_or-set_other chain (i + 1) j t 0 (λ z. omega arith) in
        let new : get_or (set chain (i + 1) t) (i + 1) 0 ≡ t = get_or-set_same chain (i + 1) t 0 room in
        let index : n - (i + 1) ≡ n - suc i = omega arith in
        record {
          size = length-set chain (i + 1) t ∙ k.size;
          first_slot = kept 0 (omega arith) ∙ k.first_slot;
          goes = λ j q. either
              (equal? j i)
              (λ z.
              rw z
              (ap (λ (m : ℕ). get_or (set chain (i + 1) t) m 0) (sym (add-one i)) ∙ new ∙ e ∙ sym (ap (next M w S (n - suc i)) (kept i (omega arith)))))
              (λ z.
              get_or-set_other chain (i + 1) (suc j) t 0 (λ y. omega arith)
              ∙ k.goes j (omega arith) ∙ sym (ap (next M w S (n - suc j)) (kept j q)));
          left = rw (new, index, e) next_slot_is.2;
          on_track = rw (new, e, add-one i) (onward-step M w s i (get_or chain i 0) next_slot here next_slot_is.1 k.on_track);
          zeros = λ j q. get_or-set_other chain (i + 1) j t 0 (λ z. omega arith) ∙ k.zeros j (omega arith);
        }

-- the slot that the code finds is the next one: `back` is the way back, and D the set of the steps that are left
module _ {M : Model} {w back : Way} {S : Set} {s n i x : ℕ} (layers : List (List ℕ)) {D chain : List ℕ} (r : back ≡ reverse w) (t : Layered M w S s n (set_no layers))
    (k : Walking M w S s n chain i) (l : i < n) (d : D ≡ get_or layers (n - 1 - i) []) (g : x ≡ get_or chain i 0) (b : x < set_slots) where
  lowest_next : first slots (λ y. has D y && any slots (λ u. step M back y u && same u x)) ≡ next M w S (n - suc i) (get_or chain i 0)
  unfolding slots set_no
  lowest_next =
      let index : n - 1 - i ≡ n - suc i = omega arith in
      let at : n - suc (n - suc i) ≡ i = omega arith in
      rw r
      (next_lowest M w S (n - suc i) x (has D) b
      (λ y q p.
      ap (λ (T : List ℕ). has T y) (d ∙ ap (λ (j : ℕ). get_or layers j []) index)
      ∙ t.agrees (n - suc i) x y (omega arith) b q (rw (at, g) k.on_track) p)
      ∙ ap (next M w S (n - suc i)) g)

  pub walk_next : {y : ℕ} → y ≡ first slots (λ y. has D y && any slots (λ u. step M back y u && same u x)) → y ≡ next M w S (n - suc i) (get_or chain i 0)
  walk_next e = e ∙ lowest_next

  -- and there is one
  pub walk_on : any slots (λ y. has D y && any slots (λ u. step M back y u && same u x)) ≡ false → ⊥
  unfolding slots
  walk_on e = let small = walk_small k l (lowest_next) in omega (arith, small, first-none slots _ e)

pub walk_done : {M : Model} {w : Way} {S : Set} {s n : ℕ} {chain : List ℕ} {i : ℕ} → Walking M w S s n chain i → i ≤ n → n ≤ i
    → Walked M w S s n chain
walk_done {M} {w} {S} {s} {n} {chain} k a b = subst (λ (j : ℕ). Walking M w S s n chain j) (omega arith) k

-- the chain to give
pub walk_given : (M : Model) (w : Way) (S : Set) (G : ℕ → Type 0) → ((t : ℕ) → t < slots → (S t ≡ true) ↔ G t)
    → (s n : ℕ) (chain : List ℕ) → s < set_slots → Away M w S n s → Walked M w S s n chain → ChainGiven M w G s n chain
unfolding slots Descends
walk_given M w S G lists s n chain h a k = record {
  size = k.size;
  shortest = descends_shortest M w S G lists n s (λ i. get_or chain i 0) h a k.first_slot k.goes;
  zeros = k.zeros;
}
