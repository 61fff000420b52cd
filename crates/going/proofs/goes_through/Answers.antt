-- DS has a test of its own; six edits always go through.
use Rattle.std.proofs.Common.{arith}
use Rattle.finite.specs.Tests.{same}
use Rattle.semantics.specs.Edit.{goes}
use Rattle.site.specs.Site.{site_of}
use Rattle.going.proofs.Laws.Goes.{goes-DS}
use Rattle.going.proofs.goes_through.Goals as goal

pub returns-in-Ds : goal.returns-in-Ds
unfolding same
returns-in-Ds c = rw (c.in-Ds.is, goes-DS (site_of c.args.site.now) c.in-Ds.n, c.place.ensures, c.at-in-Ds.ensures)

pub returns-in-Cn1 : goal.returns-in-Cn1
unfolding goes
returns-in-Cn1 c = grind (arith, c.in-Cn1.is)
