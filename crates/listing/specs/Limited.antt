-- What listing promises to the functions that call it, with the rounds that it makes.
use Rattle.std.specs.Prelude.{◌≡◌, List, Option, Result, MatchResult, ℕ, suc, ◌≤◌, min, length}
use Rattle.bitset.specs.Set.{set_bytes}
use Rattle.semantics.specs.Form.{Form}
use Rattle.semantics.specs.Holds.{Env, Model}
use Rattle.rounds.specs.Makes.{Makes}
use Rattle.listing.specs.declared.Found.{Found}
use Rattle.listing.specs.declared.limit.OverLimit.{OverLimit}
use Rattle.listing.specs.Counting.{Within, counted}
use Rattle.listing.specs.Listed.{Listed}

-- listing φ on M makes `made` rounds. The number answered is that one as far as one over the limit; where it is within the limit, the set is listed
pub record Limited (limit : ℕ) (M : Model) (φ : Form) (set : List ℕ) (f : Found) : Type 0 where
  pub made : ℕ
  pub makes : (ρ : Env) → Makes M ρ φ made
  pub number : f.rounds ≡ min made (suc limit)
  pub listed : f.rounds ≤ limit → Listed M φ set f.count
  pub size : length set ≡ set_bytes

-- what an evaluation under a limit, or under none, answers: the set is listed, with the rounds as they are counted, or the rounds are over the limit
pub record Answered (limit : Option ℕ) (M : Model) (φ : Form) (set : List ℕ) (f : Result Found OverLimit) : Type 0 where
  pub made : ℕ
  pub makes : (ρ : Env) → Makes M ρ φ made
  pub answer : MatchResult f (λ f. (f.rounds ≡ counted limit made) × Within limit made × Listed M φ set f.count) (λ _. ¬ Within limit made)
  pub size : length set ≡ set_bytes
