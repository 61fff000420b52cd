-- What the rounds from the start, or from the goal, say of the chain.
use Rattle.std.specs.Prelude.{◌≡◌, List, Bool, true, false, ◌&&◌, ℕ, suc, ◌<◌}
use Rattle.std.proofs.Common.{◌∙◌, ap, arith, sym}
use Rattle.finite.specs.Tests.{same, any}
use Rattle.finite.proofs.Laws.Bools.{clash, and_l, and_r}
use Rattle.finite.proofs.Laws.Below.{same_eq, same_refl, any_out, any_cong}
use Rattle.bitset.specs.Set.{set_slots, has}
use Rattle.limits.specs.Limits.{slots}
use Rattle.semantics.specs.Form.{Way}
use Rattle.semantics.specs.Holds.{Set, Model}
use Rattle.semantics.specs.Agree.{◌≐◌}
use Rattle.chains.specs.Chain.{SomeChain, ReachedSet}
use Rattle.chains.specs.Layers.{within, Rest}
use Rattle.chains.proofs.Laws.Layers.{within-next, within_goal, some-within}
use Rattle.chains.specs.Shortest.{Away}
use Rattle.chains.specs.Reached.{reverse, onward}
use Rattle.chains.proofs.Laws.Reached.{onward-rest, reached_same, no_chain}
use Rattle.chains.specs.Directed.{exact, meeting}
use Rattle.chains.proofs.Laws.Directed.{exact_start, exact_goal, exact_away, not_met, met_away, layered_start, layered_goal}
use Rattle.chaining.specs.Rounds.{Met, Rested, Spread, Pruned, Measured, OutOfReach, Searched}
use Rattle.chaining.specs.declared.Ending.{Ending}
use Rattle.chaining.specs.declared.Ending.TheVariants.{Steps, Reached}

-- of the set that the rounds start from only the slots count
module _ (M : Model) (w : Way) {S S' : Set} (T : Set) (e : S ≐ S') where
  same-within : (k : ℕ) → within M w S k ≐ within M w S' k
  same-within = within_goal M w S S' e

  meet : (k : ℕ) → meeting M w S T k ≡ meeting M w S' T k
  unfolding meeting
  meet k = any_cong slots _ _ (λ t l. ap (λ (b : Bool). b && T t) (exact_goal M w S S' e k t l))

  met_none : (k : ℕ) → any k (meeting M w S T) ≡ any k (meeting M w S' T)
  met_none k = any_cong k _ _ (λ j _. meet j)

  met_from : {n : ℕ} {fronts : List (List ℕ)} → Met M w S T n fronts → Met M w S' T n fronts
  met_from {n} f = record {
    fronts_are = record { front = λ j d x h. f.fronts_are.front j d x h ∙ exact_goal M w S S' e j x h };
    meets = sym (meet n) ∙ f.meets;
    no_sooner = sym (met_none n) ∙ f.no_sooner;
  }

  rested_from : {set : List ℕ} → Rested M w S T set → Rested M w S' T set
  unfolding Rest
  rested_from f =
      let k = f.rounds in
      record {
        rounds = k;
        rest = λ x h q.
            let more : within M w S' (suc k) x ≡ true = rw (within-next M w S' k) q in
            let before : within M w S (suc k) x ≡ true = same-within (suc k) x h ∙ more in
            sym (same-within k x h) ∙ f.rest x h (rw (within-next M w S k) at before);
        set_is = λ x h. f.set_is x h ∙ same-within k x h;
        none_met = sym (met_none (suc k)) ∙ f.none_met;
      }

-- the slots that rounds by the way back find are what can be reached from s, and none of them is in T
module _ {M : Model} (w : Way) {T : Set} {s : ℕ} {set : List ℕ} (h : s < set_slots) (f : Rested M (reverse w) (λ t. same t s) T set) where
  on_reached : ReachedSet M w s (has set)
  unfolding onward slots
  on_reached = reached_same M w s (onward M w s f.rounds) (has set) (λ x d. sym (f.set_is x d)) (onward-rest M w s h f.rounds f.rest)

  on_none : ¬ SomeChain M w (λ t. T t ≡ true) s
  unfolding slots
  on_none = (no_chain M w s h _ (has set) on_reached).1 (λ t d q g. clash g (not_met M (reverse w) _ T f.rounds t d f.none_met (sym (f.set_is t d) ∙ q)))

-- rounds on from the start s alone, which go by the way back
module _ (w : Way) {back : Way} {one : Set} {s : ℕ} (r : back ≡ reverse w) (h : s < set_slots) (e : (t : ℕ) → t < set_slots → one t ≡ same t s) where
  rested_on : {M : Model} {T : Set} {set : List ℕ} → Rested M back one T set → Rested M (reverse w) (λ t. same t s) T set
  unfolding slots
  rested_on {M} {T} p = rested_from M (reverse w) T e (rw r at p)

  pub start_none : {M : Model} {S : Set} {set : List ℕ} → Rested M back one S set → OutOfReach M w S s set
  start_none p = let q = rested_on p in record { no_chain = on_none w h q; reached = on_reached w h q }

  pub start_found : {M : Model} {S : Set} {n : ℕ} {fronts layers : List (List ℕ)} → Met M back one S n fronts → Pruned M w S n fronts layers n
      → Measured M w S s n layers
  unfolding slots
  start_found {M} {S} {n} {fronts} p t =
      let q : Met M (reverse w) (λ t. same t s) S n fronts = met_from M (reverse w) S e (rw r at p) in
      let a = met_away M w S s h n q.meets q.no_sooner in
      record { goal = t.goal; away = a; layered = layered_start h a t.goal q.fronts_are.front t.lead_on }

-- rounds back from the goal, to the start s
module _ {M : Model} {w : Way} {S one : Set} {s : ℕ} (h : s < set_slots) (e : (t : ℕ) → t < set_slots → one t ≡ same t s) where
  pub goal_found : {n : ℕ} {layers : List (List ℕ)} → Met M w S one n layers → Measured M w S s n layers
  unfolding meeting slots
  goal_found {n} f =
      let r = any_out slots _ f.meets in
      let at : r.0 ≡ s = same_eq (sym (e r.0 r.1) ∙ and_r (exact M w S n r.0) _ r.2) in
      let a : Away M w S n s = rw at at (exact_away M w S n r.0 r.1 (and_l _ _ r.2)) in
      record { goal = rw exact_start at (f.fronts_are.front 0 (omega arith)); away = a; layered = layered_goal h a f.fronts_are.front }

  goal_none : {set : List ℕ} → Rested M w S one set → ¬ SomeChain M w (λ t. S t ≡ true) s
  unfolding slots
  goal_none f C =
      clash (e s h ∙ same_refl s)
      (not_met M w S one f.rounds s h f.none_met ((some-within M w S _ (λ t d. (λ q. q, λ q. q)) f.rounds f.rest s h).0 C))

  -- and then on from the start, to nowhere
  pub goal_reached : {back : Way} {set : List ℕ} {nowhere : Set} → back ≡ reverse w → Rested M w S one set
      → ((t : ℕ) → t < set_slots → nowhere t ≡ false) → (o : Ending) (layers : List (List ℕ)) → Spread M back one nowhere o layers → Searched M w S s o layers
  unfolding meeting slots
  goal_reached {back} {nowhere = nowhere} r p z (Steps n) layers f =
      let t = any_out slots _ f.meets in
      clash (and_r (exact M back one n t.0) (nowhere t.0) t.2) (z t.0 t.1)
  goal_reached r p z (Reached set') layers f = record { no_chain = goal_none p; reached = on_reached w h (rested_on w r h e f) }
