-- What rounds from a set leave, and what the search from the start or from the goal does.
use Rattle.std.specs.Prelude.{◌≡◌, List, [], true, false, not, ◌&&◌, ℕ, suc, ◌-◌, ◌≤◌, ◌<◌, get_or}
use Rattle.finite.specs.Tests.{any}
use Rattle.bitset.specs.Set.{has, Is}
use Rattle.semantics.specs.Form.{Way}
use Rattle.semantics.specs.Holds.{Set, Model}
use Rattle.semantics.specs.Agree.{◌≐◌}
use Rattle.chains.specs.Chain.{SomeChain, ReachedSet}
use Rattle.chains.specs.Layers.{within, Rest}
use Rattle.chains.specs.Shortest.{Away}
use Rattle.chains.specs.Directed.{into, exact, meeting, Layered}
use Rattle.chaining.specs.declared.Ending.{Ending}
use Rattle.chaining.specs.declared.Ending.TheVariants.{Steps, Reached}

-- set j of several
unfoldable pub set_no : List (List ℕ) → ℕ → Set
set_no sets j = has (get_or sets j [])

-- r holds the slots outside the set from which the way w leads into `front`
pub record Fresh (M : Model) (w : Way) (front set r : List ℕ) : Type 0 where
  pub holds : Is r (λ x. not (has set x) && into M w (has front) x)

-- the sets are of the slots that are 0 to n steps away from S, each number's is one
pub record Fronts (M : Model) (w : Way) (S : Set) (n : ℕ) (fronts : List (List ℕ)) : Type 0 where
  pub front : (j : ℕ) → j ≤ n → set_no fronts j ≐ exact M w S j

-- n is the first number of steps that leads from S into T
pub record Met (M : Model) (w : Way) (S T : Set) (n : ℕ) (fronts : List (List ℕ)) : Type 0 where
  pub fronts_are : Fronts M w S n fronts
  pub meets : meeting M w S T n ≡ true
  pub no_sooner : any n (meeting M w S T) ≡ false

-- a round added nothing, and no slot of the set, which are all that were found, is in T
pub record Rested (M : Model) (w : Way) (S T : Set) (set : List ℕ) : Type 0 where
  pub rounds : ℕ
  pub rest : Rest M w S rounds
  pub set_is : has set ≐ within M w S rounds
  pub none_met : any (suc rounds) (meeting M w S T) ≡ false

-- what rounds from S tell of T
abbrev pub Spread : Model → Way → (S T : Set) → Ending → List (List ℕ) → Type 0
Spread M w S T (Steps n) fronts = Met M w S T n fronts
Spread M w S T (Reached set) fronts = Rested M w S T set

-- while the rounds go on: after k of them
pub record Spreading (M : Model) (w : Way) (S T : Set) (fronts : List (List ℕ)) (set front : List ℕ) (k : ℕ) : Type 0 where
  pub set_is : has set ≐ within M w S k
  pub front_is : has front ≐ exact M w S k
  pub before : (j : ℕ) → j < k → set_no fronts j ≐ exact M w S j
  pub not_yet : any k (meeting M w S T) ≡ false

-- layer 0 is S; layer j + 1 is of the slots of front n - 1 - j that lead into layer j. So for each j below m
pub record Pruned (M : Model) (w : Way) (S : Set) (n : ℕ) (fronts layers : List (List ℕ)) (m : ℕ) : Type 0 where
  pub goal : set_no layers 0 ≐ S
  pub lead_on : (j : ℕ) → j < m → set_no layers (suc j) ≐ (λ x. set_no fronts (n - suc j) x && into M w (set_no layers j) x)

-- n is how many steps the goal is away from s, with the layers to go by
pub record Measured (M : Model) (w : Way) (S : Set) (s n : ℕ) (layers : List (List ℕ)) : Type 0 where
  pub goal : set_no layers 0 ≐ S
  pub away : Away M w S n s
  pub layered : Layered M w S s n (set_no layers)

-- there is no chain, and the set holds what can be reached
pub record OutOfReach (M : Model) (w : Way) (S : Set) (s : ℕ) (set : List ℕ) : Type 0 where
  pub no_chain : ¬ SomeChain M w (λ t. S t ≡ true) s
  pub reached : ReachedSet M w s (has set)

-- what the search leaves
abbrev pub Searched : Model → Way → Set → (s : ℕ) → Ending → List (List ℕ) → Type 0
Searched M w S s (Steps n) layers = Measured M w S s n layers
Searched M w S s (Reached set) layers = OutOfReach M w S s set
