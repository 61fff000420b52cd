-- The chain of fewest steps, lowest at the first difference: there is one where there is a chain, there is only one, it is found by going to
-- the lowest slot that is one step nearer, it has no slot twice and at most 255 steps.
use Rattle.std.specs.Prelude.{◌≡◌, ◌↔◌, ◌≢◌, ◌&&◌, refl, Bool, true, ℕ, zero, suc, ◌+◌, ◌-◌, ◌≤◌, ◌<◌}
use Rattle.std.proofs.Common.{sym, ◌∙◌, ap, ap₂, arith}
use Rattle.finite.specs.Tests.{same, any, first}
use Rattle.finite.proofs.Laws.Bools.{either, clash, no_true, and_in, and_l, and_r}
use Rattle.finite.proofs.Laws.Below.{any_in, any_none}
use Rattle.finite.proofs.Laws.Reflect.{same_iff}
use Rattle.finite.proofs.Laws.First.{first_in, first_low}
use Rattle.limits.specs.Limits.{slots}
use Rattle.semantics.specs.Form.{Way}
use Rattle.semantics.specs.Holds.{Set, Model, step}
use Rattle.chains.specs.Chain.{Chain, SomeChain, Shortest}
use Rattle.chains.proofs.Laws.Chains.{before, chain_slot, chain_first, chain_here, chain_more, chain_from, chain_rest, chain_join, chain_to}
use Rattle.chains.specs.Layers.{within}
use Rattle.chains.proofs.Laws.Layers.{last, slots-last, toward_out, toward-step, within_start, within-next, within_here, rest-last, within_chain, chain_within, some-within}
use Rattle.chains.specs.Shortest.{Away, next}

-- only one: as many steps, and the same slots
pub shortest_one : {M : Model} {w : Way} {G : ℕ → Type 0} {s n m : ℕ} {c d : ℕ → ℕ} → Shortest M w G s n c → Shortest M w G s m d
    → (n ≡ m) × ((i : ℕ) → i ≤ n → c i ≡ d i)
shortest_one {M} {w} {G} {s} {n} {m} {c} {d} C D = (e, λ i h. go (suc i) i (omega arith) h)
  where
    e : n ≡ m
    e = omega (arith, C.fewest m d D.chain, D.fewest n c C.chain)

    c' : Chain M w G s m c
    c' = rw e at C.chain

    d' : Chain M w G s n d
    d' = rw e D.chain

    go : (b i : ℕ) → i < b → i ≤ n → c i ≡ d i
    go zero i l h = absurd (omega arith)
    go (suc b) i l h =
        omega (arith, C.lowest d d' i h (λ j k. go b j (omega arith) (omega arith)), D.lowest c c' i (omega (arith, e)) (λ j k. sym (go b j (omega arith) (omega arith))))

-- for a goal with the same slots
pub shortest_goal : {M : Model} {w : Way} {G : ℕ → Type 0} {s n : ℕ} {c : ℕ → ℕ} (H : ℕ → Type 0) → ((t : ℕ) → t < slots → G t ↔ H t)
    → Shortest M w G s n c → Shortest M w H s n c
shortest_goal {M} {w} {G} {s} {n} {c} H e C = record {
  chain = chain_to C.chain H ((e _ (C.chain.is_slot n (omega arith))).0 C.chain.goal);
  fewest = λ m d D. C.fewest m d (back m d D);
  lowest = λ d D. C.lowest d (back n d D);
}
  where
    back : (m : ℕ) (d : ℕ → ℕ) → Chain M w H s m d → Chain M w G s m d
    back m d D = chain_to D G ((e _ (D.is_slot m (omega arith))).1 D.goal)

-- no slot twice
pub shortest_apart : {M : Model} {w : Way} {G : ℕ → Type 0} {s n : ℕ} {c : ℕ → ℕ} → Shortest M w G s n c
    → (i j : ℕ) → i < j → j ≤ n → c i ≢ c j
shortest_apart {M} {w} {G} {n = n} {c = c} C i j h l e =
    let rest = chain_from C.chain j (n - j) (omega arith) in
    let r = chain_join C.chain G i (n - j) (λ k. c (j + k)) (omega arith) (rw e rest) in
    omega (arith, C.fewest (i + (n - j)) r.0 r.1)

-- at most 255 steps
pub shortest_short : {M : Model} {w : Way} {G : ℕ → Type 0} {s n : ℕ} {c : ℕ → ℕ} → Shortest M w G s n c → n < slots
unfolding SomeChain
shortest_short {M} {w} {G} {s} {n} {c} C =
    let end : ℕ → Type 0 = λ x. x ≡ c n in
    let S : Set = λ x. same x (c n) in
    let lists : (t : ℕ) → t < slots → (S t ≡ true) ↔ end t = λ t _. same_iff t (c n) in
    let is_slot : s < slots = chain_slot C.chain in
    let r = within_chain M w S end lists last s is_slot ((some-within M w S end lists last (rest-last M w S) s is_slot).0 (n, c, chain_to C.chain end refl)) in
    omega (arith, slots-last, r.1, C.fewest r.0 r.2 (chain_to r.3 G (rw r.3.goal C.chain.goal)))

module _ (M : Model) (w : Way) (S : Set) where
  -- each next slot is the lowest that is within the steps that are left after it
  unfoldable pub Descends : ℕ → (ℕ → ℕ) → Type 0
  Descends n c = (i : ℕ) → i < n → c (suc i) ≡ next M w S (n - suc i) (c i)

  pub next_is : (k x : ℕ) → Away M w S (suc k) x → (next M w S k x < slots) × (step M w x (next M w S k x) ≡ true) × Away M w S k (next M w S k x)
  unfolding next
  next_is k x a =
      let f : ℕ → Bool = λ t. step M w x t && within M w S k t in
      let some : any slots f ≡ true =
      either (toward_out M w S (within M w S k) x (rw within-next at a.in_reach))
      (λ p. clash (within_here M w S 0 x p) (a.no_nearer 0 (omega arith)))
      (λ r. any_in slots f r.0 r.1 (and_in r.2 r.3)) in
      let r = first_in slots f some in
      let one : step M w x (first slots f) ≡ true = and_l _ _ r.1 in (
        r.0,
        one,
        record {
          in_reach = and_r (step M w x (first slots f)) _ r.1;
          no_nearer = λ j h. no_true (λ p. clash (rw within-next (toward-step M w S (within M w S j) x _ r.0 one p)) (a.no_nearer (suc j) (omega arith)));
        },
      )

  module _ (G : ℕ → Type 0) (lists : (t : ℕ) → t < slots → (S t ≡ true) ↔ G t) where
    no_fewer : (n s : ℕ) → Away M w S n s → (m : ℕ) (d : ℕ → ℕ) → Chain M w G s m d → n ≤ m
    no_fewer n s a m d D =
        let h : ¬ (m < n) = λ l. clash (chain_within M w S G lists m m s d D (omega arith)) (a.no_nearer m l) in omega arith

    -- one step to the lowest slot that is nearer, and then the chain to give from there
    descends_more : (n s : ℕ) (c : ℕ → ℕ) → s < slots → Away M w S (suc n) s → c 0 ≡ s → c (suc 0) ≡ next M w S n s
        → Shortest M w G (c (suc 0)) n (λ i. c (suc i)) → Shortest M w G s (suc n) c
    unfolding next
    descends_more n s c h a e to r = record {
      chain = chain_more h e (rw to (next_is n s a).1) r.chain;
      fewest = no_fewer (suc n) s a;
      lowest = low;
    }
      where
        low : (d : ℕ → ℕ) → Chain M w G s (suc n) d → (i : ℕ) → i ≤ suc n → ((j : ℕ) → j < i → c j ≡ d j) → c i ≤ d i
        low d D zero l g = omega (arith, e, D.start)
        low d D (suc zero) l g =
            let near : within M w S n (d (suc 0)) ≡ true = chain_within M w S G lists n n (d (suc 0)) _ (chain_rest D) (omega arith) in
            rw to (first_low slots _ (d (suc 0)) (D.is_slot 1 (omega arith)) (and_in (chain_first D) near))
        low d D (suc (suc i)) l g =
            r.lowest (λ k. d (suc k)) (rw (g 1 (omega arith)) (chain_rest D)) (suc i) (omega arith) (λ j k. g (suc j) (omega arith))

    -- a walk that always goes to the lowest slot that is nearer is the chain to give
    pub descends_shortest : (n s : ℕ) (c : ℕ → ℕ) → s < slots → Away M w S n s → c 0 ≡ s → Descends n c → Shortest M w G s n c
    unfolding Descends
    descends_shortest zero s c h a e f = record {
      chain = chain_here s c h e ((lists s h).0 (rw within_start at a.in_reach));
      fewest = no_fewer 0 s a;
      lowest = λ d D i l g. let z : i ≡ 0 = omega arith in rw z (omega (arith, e, D.start));
    }
    descends_shortest (suc n) s c h a e f =
        let to : c (suc 0) ≡ next M w S n s = f 0 (omega arith) ∙ ap₂ (next M w S) (omega arith) e in
        let t = next_is n s a in
        descends_more n s c h a e to
        (descends_shortest n (c (suc 0)) (λ i. c (suc i)) (rw to t.0) (rw to t.2) refl (λ i l. f (suc i) (omega arith) ∙ ap (λ (k : ℕ). next M w S k (c (suc i))) (omega arith)))

  -- there is such a walk
  walk : ℕ → ℕ → ℕ → ℕ
  walk zero s = λ i. s
  walk (suc n) s = before s (walk n (next M w S n s))

  walk_start : (n s : ℕ) → walk n s 0 ≡ s
  unfolding walk before
  walk_start zero s = refl
  walk_start (suc n) s = refl

  walk_descends : (n s : ℕ) → Descends n (walk n s)
  unfolding Descends walk before
  walk_descends zero s i l = absurd (omega arith)
  walk_descends (suc n) s zero l = walk_start n (next M w S n s) ∙ ap (λ (k : ℕ). next M w S k s) (omega arith)
  walk_descends (suc n) s (suc i) l =
      walk_descends n (next M w S n s) i (omega arith) ∙ ap (λ (k : ℕ). next M w S k (walk n (next M w S n s) i)) (omega arith)

  -- the steps from x, where the goal can be reached at all
  pub away : (x : ℕ) → within M w S last x ≡ true → (k : ℕ) × Away M w S k x
  away x p =
      let f : ℕ → Bool = λ k. within M w S k x in
      let r = first_in (suc last) f (any_in (suc last) f last (omega arith) p) in
      (first (suc last) f, record { in_reach = r.1; no_nearer = any_none _ f r.2 })

  -- there is a chain to give exactly where there is a chain
  pub shortest_some : (G : ℕ → Type 0) → ((t : ℕ) → t < slots → (S t ≡ true) ↔ G t)
      → (s : ℕ) → s < slots → SomeChain M w G s ↔ ((n : ℕ) × (c : ℕ → ℕ) × Shortest M w G s n c)
  unfolding SomeChain
  shortest_some G lists s h = (
    λ C.
        let a = away s ((some-within M w S G lists last (rest-last M w S) s h).0 C) in
        let n = a.0 in
        (n, walk n s, descends_shortest G lists n s (walk n s) h a.1 (walk_start n s) (walk_descends n s)),
    λ C. (C.0, C.1, C.2.chain),
  )
