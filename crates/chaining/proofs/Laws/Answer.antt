-- The answer, from the rounds, the walk and the set that can be reached; for the condition that lists the goal; and the set as bytes.
use Rattle.std.specs.Prelude.{◌≡◌, ◌↔◌, List, true, ℕ, ◌<◌, length, replicate}
use Rattle.std.proofs.Common.{sym, ◌∙◌, arith}
use Rattle.finite.specs.Bytes.{Bytes}
use Rattle.bitset.specs.Set.{set_bytes, set_slots, has}
use Rattle.limits.specs.Limits.{slots}
use Rattle.semantics.specs.Form.{Way}
use Rattle.semantics.specs.Holds.{Set, Model}
use Rattle.semantics.specs.Agree.{◌≐◌}
use Rattle.chains.specs.Chain.{SomeChain, ReachedSet}
use Rattle.chains.specs.Given.{chain_bytes, ChainGiven}
use Rattle.chains.proofs.Laws.Chains.{chain_to}
use Rattle.chains.specs.Layers.{within}
use Rattle.chains.proofs.Laws.Layers.{within_goal}
use Rattle.chains.specs.Shortest.{Away}
use Rattle.chains.proofs.Laws.Shortest.{shortest_goal}
use Rattle.chains.specs.Directed.{Layered}
use Rattle.chaining.specs.Answer.{NoChain, Answer, SetGiven}
use Rattle.chaining.specs.Rounds.{set_no, Measured, OutOfReach}
use Rattle.chaining.specs.Walk.{Walked}
use Rattle.chaining.specs.declared.Ending.{Ending}
use Rattle.chaining.specs.declared.Ending.TheVariants.{Steps, Reached}
use Rattle.chaining.proofs.Laws.Walk.{walk_given}

-- two sets with the same slots
lists : {S T : Set} → S ≐ T → (t : ℕ) → t < slots → (S t ≡ true) ↔ (T t ≡ true)
lists e t l = (λ p. sym (e t l) ∙ p, λ p. e t l ∙ p)

-- layer 0 is the goal's set, and the same is so for it
module _ {M : Model} {w : Way} {S : Set} {s n : ℕ} {layers : List (List ℕ)} (b : Measured M w S s n layers) where
  kept : (k : ℕ) → within M w (set_no layers 0) k ≐ within M w S k
  kept = within_goal M w (set_no layers 0) S b.goal

  pub away_kept : s < set_slots → Away M w (set_no layers 0) n s
  unfolding slots
  away_kept h = record { in_reach = kept n s h ∙ b.away.in_reach; no_nearer = λ j k. kept j s h ∙ b.away.no_nearer j k }

  pub layers_kept : Layered M w (set_no layers 0) s n (set_no layers)
  layers_kept = record { agrees = λ j x t d k m p q. b.layered.agrees j x t d k m p q ∙ sym (kept j t m) }

  pub answer_found : s < set_slots → {chain : List ℕ} → Walked M w (set_no layers 0) s n chain → ChainGiven M w (λ t. S t ≡ true) s n chain
  answer_found h {chain} k = walk_given M w (set_no layers 0) _ (lists b.goal) s n chain h (away_kept h) k

pub answer_none : {M : Model} {w : Way} {S : Set} {s : ℕ} {set chain : List ℕ} → OutOfReach M w S s set → chain ≡ replicate chain_bytes 0
    → NoChain M w (λ t. S t ≡ true) s set chain
answer_none b z = record { none = b.no_chain; reached = b.reached; zeros = z }

-- the same for a goal with the same slots: those that a condition lists
pub answer_goal : (M : Model) (w : Way) {G : ℕ → Type 0} (s : ℕ) (chain : List ℕ) (H : ℕ → Type 0) → ((t : ℕ) → t < slots → G t ↔ H t)
    → (o : Ending) → Answer M w G s o chain → Answer M w H s o chain
unfolding SomeChain
answer_goal M w s chain H e (Steps n) g = record { size = g.size; shortest = shortest_goal H e g.shortest; zeros = g.zeros }
answer_goal M w {G} s chain H e (Reached set) g = record {
  none = λ C. g.none (C.0, C.1, chain_to C.2 G ((e _ (C.2.is_slot C.0 (omega arith))).1 C.2.goal));
  reached = g.reached;
  zeros = g.zeros;
}

-- the set that was found, where it is written as bytes
pub set_given : {M : Model} {w : Way} {s : ℕ} {set set' : List ℕ} → ReachedSet M w s (has set) → set' ≡ set → length set' ≡ set_bytes → Bytes set' → SetGiven M w s set'
set_given r e l b = record { size = l; bytes = b; reached = rw e r }
