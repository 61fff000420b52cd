-- Chains put together and cut.
use Rattle.std.specs.Prelude.{◌≡◌, true, ℕ, zero, suc, ◌+◌, ◌≤◌, ◌<◌, refl}
use Rattle.std.proofs.Common.{add-suc, add-zero, zero-add, arith}
use Rattle.limits.specs.Limits.{slots}
use Rattle.semantics.specs.Form.{Way}
use Rattle.semantics.specs.Holds.{Model, step}
use Rattle.chains.specs.Chain.{Chain}

-- s, and then the slots of c
unfoldable pub before : ℕ → (ℕ → ℕ) → ℕ → ℕ
before s c zero = s
before s c (suc i) = c i

module _ {M : Model} {w : Way} {G : ℕ → Type 0} where
  -- its start is a slot, which is a goal slot where there is no step, and else the first step leaves it
  pub chain_slot : {s n : ℕ} {c : ℕ → ℕ} → Chain M w G s n c → s < slots
  chain_slot C = rw C.start at (C.is_slot 0 (omega arith))

  pub chain_goal : {s : ℕ} {c : ℕ → ℕ} → Chain M w G s 0 c → G s
  chain_goal C = rw C.start at C.goal

  pub chain_first : {s n : ℕ} {c : ℕ → ℕ} → Chain M w G s (suc n) c → step M w s (c (suc 0)) ≡ true
  chain_first C = rw C.start at (C.steps 0 (omega arith))

  -- no step
  pub chain_here : (s : ℕ) (c : ℕ → ℕ) → s < slots → c 0 ≡ s → G s → Chain M w G s 0 c
  chain_here s c h e g = record {
    is_slot = λ i l. let z : i ≡ 0 = omega arith in rw (z, e) h;
    start = e;
    steps = λ i l. absurd (omega arith);
    goal = rw e g;
  }

  -- a step, and then a chain
  pub chain_more : {s n : ℕ} {c : ℕ → ℕ} → s < slots → c 0 ≡ s → step M w s (c (suc 0)) ≡ true
      → Chain M w G (c (suc 0)) n (λ i. c (suc i)) → Chain M w G s (suc n) c
  chain_more {s} {n} {c} h e p C = record { is_slot = at; start = e; steps = go; goal = C.goal }
    where
      at : (i : ℕ) → i ≤ suc n → c i < slots
      at zero l = rw e h
      at (suc i) l = C.is_slot i (omega arith)

      go : (i : ℕ) → i < suc n → step M w (c i) (c (suc i)) ≡ true
      go zero l = rw e p
      go (suc i) l = C.steps i (omega arith)

  pub chain_before : {s t n : ℕ} {c : ℕ → ℕ} → s < slots → step M w s t ≡ true → Chain M w G t n c → Chain M w G s (suc n) (before s c)
  unfolding before
  chain_before {s} {t} {n} {c} h p C = chain_more h refl (rw C.start p) (record { is_slot = C.is_slot; start = refl; steps = C.steps; goal = C.goal })

  -- what is left of a chain after its first j steps
  pub chain_from : {s n : ℕ} {c : ℕ → ℕ} → Chain M w G s n c → (j m : ℕ) → j + m ≡ n → Chain M w G (c j) m (λ i. c (j + i))
  chain_from {c = c} C j m e = record {
    is_slot = λ i l. C.is_slot (j + i) (omega arith);
    start = rw (add-zero j);
    steps = λ i l. rw add-suc (C.steps (j + i) (omega arith));
    goal = rw e C.goal;
  }

  -- after its first step
  pub chain_rest : {s n : ℕ} {c : ℕ → ℕ} → Chain M w G s (suc n) c → Chain M w G (c (suc 0)) n (λ i. c (suc i))
  chain_rest C = record {
    is_slot = λ i l. C.is_slot (suc i) (omega arith);
    start = refl;
    steps = λ i l. C.steps (suc i) (omega arith);
    goal = C.goal;
  }

-- the first i steps of a chain, and then another chain
pub chain_join : {M : Model} {w : Way} {G : ℕ → Type 0} {s n : ℕ} {c : ℕ → ℕ} → Chain M w G s n c
    → (H : ℕ → Type 0) (i m : ℕ) (d : ℕ → ℕ) → i ≤ n → Chain M w H (c i) m d → (e : ℕ → ℕ) × Chain M w H s (i + m) e
chain_join C H zero m d h D = (d, rw (zero-add m) (rw C.start at D))
chain_join {c} C H (suc i) m d h D =
    let r = chain_join C H i (suc m) (before (c i) d) (omega arith) (chain_before (C.is_slot i (omega arith)) (C.steps i h) D) in
    let e : suc i + m ≡ i + suc m = omega arith in
    (r.0, rw e r.1)

-- to another goal that has its last slot
pub chain_to : {M : Model} {w : Way} {G : ℕ → Type 0} {s n : ℕ} {c : ℕ → ℕ} → Chain M w G s n c
    → (H : ℕ → Type 0) → H (c n) → Chain M w H s n c
chain_to C H g = record { is_slot = C.is_slot; start = C.start; steps = C.steps; goal = g }
