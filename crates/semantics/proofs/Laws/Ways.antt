-- The ways by their numbers.
use Rattle.std.specs.Prelude.{◌≡◌, refl, true, ℕ, ◌+◌, ◌<◌}
use Rattle.std.proofs.Common.{ap, arith}
use Rattle.finite.specs.Tests.{below}
use Rattle.finite.proofs.Laws.Bools.{either, look}
use Rattle.finite.proofs.Laws.Below.{below_in, below_out, below-not, not-below}
use Rattle.limits.specs.Limits.{links, every_way}
use Rattle.semantics.specs.Form.{Way, along, against, every}
use Rattle.semantics.specs.Holds.{Model, step}
use Rattle.semantics.specs.Table.{way_no, way_of}
use Rattle.semantics.specs.Bisimulation.{Link}

pub way_along : (m : ℕ) → m < links → way_of m ≡ along m
unfolding way_of
way_along m h = rw (below_in m links h, way_of)

pub way_against : (m : ℕ) → m < links → way_of (m + links) ≡ against m
unfolding way_of
way_against m h = rw (below-not (m + links) links (omega arith), below_in (m + links) every_way (omega arith)) (ap against (omega arith))

-- E reaches every slot
pub everywhere : (M : Model) (s t : ℕ) → step M (way_of every_way) s t ≡ true
unfolding way_of below step
everywhere M s t = refl

-- the ways that a bisimulation goes by are those before E
pub way_link : (p : ℕ) → p < every_way → Link (way_of p)
unfolding way_of Link
way_link p h =
    either
    (look (below p links))
    (λ e. rw (e, way_of) (below_out p links e))
    (λ e. rw (e, below_in p every_way h, way_of) (omega (arith, not-below p links e)))

pub link_way : (w : Way) → Link w → (way_no w < every_way) × (way_of (way_no w) ≡ w)
unfolding way_no Link
link_way (along m) h = (omega arith, way_along m h)
link_way (against m) h = (omega arith, way_against m h)
link_way every h = absurd h
