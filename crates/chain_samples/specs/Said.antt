-- What a row says, in the words of the definitions.
use Rattle.std.specs.Prelude.{◌≡◌, List, [], ◌∷◌, true, ℕ, ◌-◌, length, get_or}
use Rattle.finite.specs.Tests.{same}
use Rattle.semantics.specs.Holds.{Set}
use Rattle.semantics.specs.Table.{way_of}
use Rattle.samples.specs.Site.{some, model}
use Rattle.chains.specs.Chain.{SomeChain, Shortest, ReachedSet}
use Rattle.chain_samples.specs.Rows.{Given, chain, reached, Row}

-- a list of slots as a set
abbrev pub set_of : List ℕ → Set
set_of xs t = some (same t) xs

abbrev pub Goal : Row → ℕ → Type 0
Goal r t = set_of r.goal t ≡ true

unfoldable pub Says : Row → Given → Type 0
Says r (chain c) = Shortest (model r.site) (way_of r.way) (Goal r) r.start (length c - 1) (λ i. get_or c i 0)
Says r (reached S) =
    (¬ SomeChain (model r.site) (way_of r.way) (Goal r) r.start) × ReachedSet (model r.site) (way_of r.way) r.start (set_of S)

abbrev pub AllSaid : List Row → Type 0
AllSaid [] = Unit {0}
AllSaid (r ∷ rs) = Says r r.given × AllSaid rs
