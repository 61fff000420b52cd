-- Rounds from a set: each from the slots that the round before has added.
use Rattle.std.specs.Prelude.{◌≡◌, refl, List, Bool, true, false, not, ◌&&◌, ◌||◌, ℕ, suc, ◌+◌, ◌≤◌, ◌<◌, length, set}
use Rattle.std.proofs.Common.{◌∙◌, ap, sym, add-one, arith}
use Rattle.std.proofs.Math.Bool.{not-not}
use Rattle.finite.specs.Tests.{any}
use Rattle.finite.proofs.Laws.Bools.{either}
use Rattle.finite.proofs.Laws.Below.{equal?, any_cong}
use Rattle.finite.proofs.Laws.First.{none_start, none_more}
use Rattle.bitset.specs.Set.{set_slots, has, Is}
use Rattle.limits.specs.Limits.{slots}
use Rattle.semantics.specs.Form.{Way}
use Rattle.semantics.specs.Holds.{Set, Model}
use Rattle.semantics.specs.Agree.{◌≐◌}
use Rattle.chains.proofs.Laws.Layers.{last, within_start, rest-last}
use Rattle.chains.specs.Directed.{exact, meeting}
use Rattle.chains.proofs.Laws.Directed.{exact_start, exact_more, set_more, exact-rest, rest-same}
use Rattle.chaining.specs.Rounds.{Fresh, Fronts, Met, Rested, Spreading}
use Rattle.chaining.proofs.Laws.Sets.{written_here, written_others}

pub spreading_start : {M : Model} {w : Way} {T : Set} {fronts : List (List ℕ)} {source : List ℕ} → Spreading M w (has source) T fronts source source 0
spreading_start = record {
  set_is = rw within_start (λ x h. refl);
  front_is = rw exact_start (λ x h. refl);
  before = λ j l. absurd (omega arith);
  not_yet = none_start _;
}

module _ {M : Model} {w : Way} {S T : Set} {fronts : List (List ℕ)} {found front : List ℕ} {k : ℕ} (g : Spreading M w S T fronts found front k) where
  -- the slots of the last round are written
  module _ {written : List ℕ} (e : written ≡ front) (h : k < length fronts) where
    stored : Fronts M w S k (set fronts k written)
    stored = record {
      front = λ j l. either (equal? j k)
          (λ q. rw (q, e) (λ x m. written_here fronts k front h x m ∙ g.front_is x m))
          (λ q x m. written_others fronts k j written q x m ∙ g.before j (omega arith) x m);
    }

    -- whether one of them is in T
    module _ {b : Bool} (t : b ≡ any set_slots (λ s. has front s && T s)) where
      tested : b ≡ meeting M w S T k
      unfolding meeting slots
      tested = t ∙ any_cong set_slots _ _ (λ s l. ap (λ (a : Bool). a && T s) (g.front_is s l))

      pub spread_found : b ≡ true → Met M w S T k (set fronts k written)
      spread_found y = record { fronts_are = stored; meets = sym tested ∙ y; no_sooner = g.not_yet }

      module _ {next : List ℕ} (f : Fresh M w front found next) (n : b ≡ false) where
        next_is : has next ≐ exact M w S (suc k)
        unfolding slots
        next_is = exact_more M w S k (has found) (has front) (has next) g.set_is g.front_is f.holds

        not_after : any (k + 1) (meeting M w S T) ≡ false
        not_after = none_more _ k g.not_yet (sym tested ∙ n)

        pub spread_rest : {d : Bool} → d ≡ not (any set_slots (has next)) → d ≡ true → Rested M w S T found
        unfolding slots
        spread_rest z y = record {
          rounds = k;
          rest = exact-rest M w S k (any_cong slots _ _ (λ s l. sym (next_is s l)) ∙ sym (not-not (any set_slots (has next))) ∙ ap not (sym z ∙ y));
          set_is = g.set_is;
          none_met = rw add-one at not_after;
        }

        pub spread_more : {found' : List ℕ} → Is found' (λ s. has found s || has next s) → Spreading M w S T (set fronts k written) found' next (k + 1)
        unfolding slots
        spread_more {found'} u = record {
          set_is = rw (add-one k) (set_more M w S k (has found) (has next) (has found') g.set_is next_is u);
          front_is = rw (add-one k) next_is;
          before = λ j d. stored.front j (omega arith);
          not_yet = not_after;
        }

  -- after as many rounds as there are slots nothing is added
  pub spread_done : set_slots ≤ k → k ≤ set_slots → Rested M w S T found
  unfolding last
  spread_done a b =
      let z : k ≡ suc 255 = omega arith in
      record {
        rounds = 255;
        rest = rest-last M w S;
        set_is = λ x h. (rw z at g.set_is) x h ∙ rest-same M w S 255 (rest-last M w S) x h;
        none_met = rw z at g.not_yet;
      }
