-- Each row is as said: a test for each is computed.
use Rattle.std.specs.Prelude.{◌≡◌, refl, List, [], ◌∷◌, Bool, true, not, ◌&&◌, ◌||◌, ℕ, suc, ◌-◌, length, get_or}
use Rattle.std.specs.Bool.{beq}
use Rattle.finite.specs.Tests.{same, below, any, all, first}
use Rattle.finite.proofs.Laws.Bools.{either, no_true, and_l, and_r, or_out, not_out, beq-true}
use Rattle.finite.proofs.Laws.Below.{same_eq, any_none, all_out, below_out}
use Rattle.limits.specs.Limits.{slots}
use Rattle.semantics.specs.Form.{Way}
use Rattle.semantics.specs.Holds.{Set, Model, step}
use Rattle.semantics.specs.Table.{way_of}
use Rattle.semantics.specs.FixedPoint.{iter}
use Rattle.samples.specs.Site.{some, each, name_at, model, site_a}
use Rattle.chains.specs.Chain.{SomeChain, Shortest, ReachedSet}
use Rattle.chains.specs.Layers.{toward, within, Rest}
use Rattle.chains.proofs.Laws.Layers.{some-within}
use Rattle.chains.specs.Shortest.{next}
use Rattle.chains.proofs.Laws.Shortest.{Descends, descends_shortest}
use Rattle.chains.specs.Reached.{reverse, onward}
use Rattle.chains.proofs.Laws.Reached.{onward-rest, reached_same}
use Rattle.chain_samples.specs.Rows.{Given, chain, reached, Row, plain, fork, detour, rows}
use Rattle.chain_samples.specs.Said.{set_of, Says, AllSaid}

-- the walk c of n steps goes from s always to the lowest slot that is nearer, as a test
module _ (M : Model) (w : Way) (S : Set) (s n : ℕ) (c : ℕ → ℕ) where
  walks : Bool
  walks =
      below s slots
      && (within M w S n s
      && (not (any n (λ j. within M w S j s)) && (same (c 0) s && all n (λ i. same (c (suc i)) (next M w S (n - suc i) (c i))))))

  walks_shortest : walks ≡ true → Shortest M w (λ t. S t ≡ true) s n c
  unfolding walks Descends
  walks_shortest p =
      let q = and_r (below s slots) _ p in
      let r = and_r (within M w S n s) _ q in
      let u = and_r (not (any n (λ j. within M w S j s))) _ r in
      descends_shortest M w S (λ t. S t ≡ true) (λ t l. (λ e. e, λ e. e)) n s c (below_out s slots (and_l _ _ p))
      (record { in_reach = and_l _ _ q; no_nearer = any_none n _ (no_true (not_out _ (and_l _ _ r))) })
      (same_eq (and_l _ _ u))
      (λ i l. same_eq (all_out n _ (and_r (same (c 0) s) _ u) i l))

-- a round that adds nothing, as a test
rests : Model → Way → Set → ℕ → Bool
rests M w S k = all slots (λ x. not (toward M w S (within M w S k) x) || within M w S k x)

rests_rest : (M : Model) (w : Way) (S : Set) (k : ℕ) → rests M w S k ≡ true → Rest M w S k
unfolding rests Rest
rests_rest M w S k p x l q = either (or_out _ _ (all_out slots _ p x l)) (λ a. absurd (not_out _ a q)) (λ a. a)

-- after two rounds back from the goal, and on from the start, nothing is added; the start is not in, and R is what the rounds on leave
module _ (M : Model) (w : Way) (S R : Set) (s : ℕ) where
  misses : Bool
  misses =
      below s slots
      && (rests M w S 2
      && (not (within M w S 2 s) && (rests M (reverse w) (λ t. same t s) 2 && all slots (λ t. beq (onward M w s 2 t) (R t)))))

  misses_none : misses ≡ true → (¬ SomeChain M w (λ t. S t ≡ true) s) × ReachedSet M w s R
  unfolding misses onward
  misses_none p =
      let h = below_out s slots (and_l _ _ p) in
      let q = and_r (below s slots) _ p in
      let r = and_r (rests M w S 2) _ q in
      let u = and_r (not (within M w S 2 s)) _ r in (
        λ C. not_out _ (and_l _ _ r) ((some-within M w S _ (λ t l. (λ e. e, λ e. e)) 2 (rests_rest M w S 2 (and_l _ _ q)) s h).0 C),
        reached_same M w s (onward M w s 2) R
            (λ t l. beq-true _ _ (all_out slots (λ t. beq (onward M w s 2 t) (R t)) (and_r (rests M (reverse w) (λ t. same t s) 2) _ u) t l))
            (onward-rest M w s h 2 (rests_rest M (reverse w) (λ t. same t s) 2 (and_l _ _ u))),
      )

tested : Row → Given → Bool
tested r (chain c) = walks (model r.site) (way_of r.way) (set_of r.goal) r.start (length c - 1) (λ i. get_or c i 0)
tested r (reached S) = misses (model r.site) (way_of r.way) (set_of r.goal) (set_of S) r.start

tested_says : (r : Row) (g : Given) → tested r g ≡ true → Says r g
unfolding tested Says
tested_says r (chain c) p = walks_shortest _ _ _ _ _ _ p
tested_says r (reached S) p = misses_none _ _ _ _ _ p

each_says : (rs : List Row) → each (λ r. tested r r.given) rs ≡ true → AllSaid rs
unfolding each
each_says [] p = tt
each_says (r ∷ rs) p = (tested_says r r.given (and_l _ _ p), each_says rs (and_r (tested r r.given) _ p))

pub all_said : AllSaid rows
unfolding slots rows plain fork detour site_a each some name_at model tested walks misses rests within iter toward step way_of same below any all next first reverse onward
all_said = each_says rows refl
