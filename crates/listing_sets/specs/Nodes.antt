-- What a node makes of its children's sets, by its kind.
use Rattle.std.specs.Prelude.{cond, ℕ}
use Rattle.finite.specs.Tests.{same}
use Rattle.limits.specs.Limits.{mu_no}
use Rattle.semantics.specs.Form.{var}
use Rattle.semantics.specs.Holds.{Set, Model}
use Rattle.semantics.specs.Table.{kind_of, Node, build}
use Rattle.semantics.specs.FixedPoint.{none, full}
use Rattle.semantics.specs.Eval.{eval}

-- what the node x makes of S, its left child's set, and T, its right child's: the set of its kind over variables 0 and 1 that have these
unfoldable pub node_makes : Model → Node → Set → Set → Set
node_makes M x S T = eval M (λ v. cond (same v 0) S T) (build (kind_of x.kind) x.param (var 0) (var 1))

-- the set from which the rounds of a mu or nu start
unfoldable pub start_of : ℕ → Set
start_of k = cond (same k mu_no) none full
