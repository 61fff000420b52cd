-- From front to front, the slots that lead on.
use Rattle.std.specs.Prelude.{◌≡◌, List, [], ◌&&◌, ℕ, suc, ◌+◌, ◌-◌, ◌≤◌, ◌<◌, length, get_or, set}
use Rattle.std.proofs.Common.{sym, ◌∙◌, ap, ap₂, subst, arith}
use Rattle.finite.proofs.Laws.Bools.{either}
use Rattle.finite.proofs.Laws.Below.{equal?, any_cong}
use Rattle.bitset.specs.Set.{has}
use Rattle.limits.specs.Limits.{slots}
use Rattle.semantics.specs.Form.{Way}
use Rattle.semantics.specs.Holds.{Set, Model, step}
use Rattle.semantics.specs.Agree.{◌≐◌}
use Rattle.modal_among.specs.Among.{Among}
use Rattle.chains.specs.Directed.{into}
use Rattle.chaining.specs.Rounds.{set_no, Pruned}
use Rattle.chaining.proofs.Laws.Sets.{written_here, written_others}

into-agree : (M : Model) (w : Way) (T T' : Set) → T ≐ T' → (x : ℕ) → into M w T x ≡ into M w T' x
unfolding into
into-agree M w T T' e x = any_cong slots _ _ (λ t l. ap (◌&&◌ (step M w x t)) (e t l))

-- layer j stands there, and the layers before it
pub record Pruning (M : Model) (w : Way) (S : Set) (n : ℕ) (fronts layers : List (List ℕ)) (layer : List ℕ) (j : ℕ) : Type 0 where
  pub layer_is : has layer ≐ set_no layers j
  pub pruned : Pruned M w S n fronts layers j

pub prune_start : {M : Model} {w : Way} {n : ℕ} {fronts : List (List ℕ)} (layers : List (List ℕ)) {goal written : List ℕ} → written ≡ goal → 0 < length layers
    → Pruning M w (has goal) n fronts (set layers 0 written) goal 0
prune_start layers {goal} e h = rw e (record {
  layer_is = λ x l. sym (written_here layers 0 goal h x l);
  pruned = record { goal = written_here layers 0 goal h; lead_on = λ j l. absurd (omega arith) };
})

pub prune_more : {M : Model} {w : Way} {S : Set} {n : ℕ} {fronts layers : List (List ℕ)} {layer front next written : List ℕ} (j : ℕ)
    → Pruning M w S n fronts layers layer j → j < n → j + 1 < length layers → front ≡ get_or fronts (n - 1 - j) [] → Among M w layer front next
    → written ≡ next → Pruning M w S n fronts (set layers (j + 1) written) next (j + 1)
unfolding into slots set_no
prune_more {M} {w} {n = n} {fronts} {layers} {layer} {front} {next} j g l h f a e =
    let place : n - 1 - j ≡ n - suc j = omega arith in
    let here : suc j ≡ j + 1 = omega arith in
    let layers' = set layers (j + 1) next in
    let stored : set_no layers' (j + 1) ≐ has next = written_here layers (j + 1) next h in
    let kept : (i : ℕ) → i < j + 1 → set_no layers' i ≐ set_no layers i = λ i d. written_others layers (j + 1) i next (λ q. omega arith) in
    rw e (record {
      layer_is = λ x m. sym (stored x m);
      pruned = record {
        goal = λ x m. kept 0 (omega arith) x m ∙ g.pruned.goal x m;
        lead_on = λ i d x m. either (equal? i j)
            (λ q. rw (q, here)
            (stored x m ∙ a.holds x m
            ∙ ap₂ ◌&&◌
            (ap (λ (T : List ℕ). has T x) (f ∙ ap (λ (k : ℕ). get_or fronts k []) (place ∙ ap (λ (k : ℕ). n - k) here)))
            (into-agree M w (has layer) (set_no layers' j) (λ t b. g.layer_is t b ∙ sym (kept j (omega arith) t b)) x)))
            (λ q.
            kept (suc i) (omega arith) x m
            ∙ g.pruned.lead_on i (omega arith) x m
            ∙ ap (◌&&◌ (set_no fronts (n - suc i) x)) (into-agree M w (set_no layers i) (set_no layers' i) (λ t b. sym (kept i (omega arith) t b)) x));
      };
    })

pub prune_done : {M : Model} {w : Way} {S : Set} {n j : ℕ} {fronts layers : List (List ℕ)} {layer : List ℕ} → Pruning M w S n fronts layers layer j → j ≤ n → n ≤ j
    → Pruned M w S n fronts layers n
prune_done {M} {w} {S} {n} {j} {fronts} {layers} g a b = subst (λ (k : ℕ). Pruned M w S n fronts layers k) (omega arith) g.pruned
