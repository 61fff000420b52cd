-- What is given for a way, a goal and a start: a chain, or the set of the slots that can be reached. docs/SPEC.md, "The chain behind a place".
use Rattle.std.specs.Prelude.{◌≡◌, List, ℕ, ◌*◌, length, replicate}
use Rattle.finite.specs.Bytes.{Bytes}
use Rattle.bitset.specs.Set.{set_bytes, set_slots, has}
use Rattle.semantics.specs.Form.{Way}
use Rattle.semantics.specs.Holds.{Model}
use Rattle.chains.specs.Chain.{SomeChain, ReachedSet}
use Rattle.chains.specs.Given.{chain_bytes, ChainGiven}
use Rattle.chaining.specs.declared.Ending.{Ending}
use Rattle.chaining.specs.declared.Ending.TheVariants.{Steps, Reached}

-- how many bytes a search works with: two sets for each number of steps
abbrev pub search_bytes : ℕ
search_bytes = 2 * set_slots * set_bytes

-- the set is 32 bytes, and holds the slots that can be reached
pub record SetGiven (M : Model) (w : Way) (s : ℕ) (set : List ℕ) : Type 0 where
  pub size : length set ≡ set_bytes
  pub bytes : Bytes set
  pub reached : ReachedSet M w s (has set)

-- there is no chain, and its bytes are zeros; the set holds the slots that can be reached
pub record NoChain (M : Model) (w : Way) (G : ℕ → Type 0) (s : ℕ) (set chain : List ℕ) : Type 0 where
  pub none : ¬ SomeChain M w G s
  pub reached : ReachedSet M w s (has set)
  pub zeros : chain ≡ replicate chain_bytes 0

-- the chain of these steps, or the set
abbrev pub Answer : Model → Way → (G : ℕ → Type 0) → ℕ → Ending → List ℕ → Type 0
Answer M w G s (Steps n) chain = ChainGiven M w G s n chain
Answer M w G s (Reached set) chain = NoChain M w G s set chain
