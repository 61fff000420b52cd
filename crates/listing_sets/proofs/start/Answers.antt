-- By cases: the kind is mu, or it is not.
use Rattle.std.proofs.Common.{◌∙◌, ap, List, ℕ}
use Rattle.bitset.specs.Set.{has}
use Rattle.bitset.proofs.Laws.Bytes.{has_empty, has-full}
use Rattle.listing_sets.proofs.Laws.Nodes.{mu_start, nu_start}
use Rattle.listing_sets.proofs.Laws.Offsets.{slot_in}
use Rattle.semantics.specs.FixedPoint.{none, full}
use Rattle.listing_sets.proofs.start.Goals as goal

pub returns-then-kind-eq-MU-clause-set : goal.returns-then-kind-eq-MU-clause-set
unfolding none
returns-then-kind-eq-MU-clause-set c = λ s h. rw (mu_start _ c.if-kind-eq-MU.true) (ap (λ (S : List ℕ). has S s) c.read.ensures.bytes ∙ has_empty s (slot_in h))

pub returns-else-kind-eq-MU-clause-set : goal.returns-else-kind-eq-MU-clause-set
unfolding full
returns-else-kind-eq-MU-clause-set c = λ s h. rw (nu_start _ c.if-kind-eq-MU.false) (ap (λ (S : List ℕ). has S s) c.read-else-kind-eq-MU.ensures.bytes ∙ has-full s (slot_in h))
