-- The tests one after the other.
use Rattle.std.proofs.Common.{◌+◌, arith}
use Rattle.finite.specs.Tests.{same}
use Rattle.going.proofs.Laws.Goes.{joins_nil, joins_general, joins_free, joins_there}
use Rattle.limits.specs.Limits.{general_links}
use Rattle.site.specs.Site.{site_of}
use Rattle.site.specs.Ways.{link_number}
use Rattle.going.proofs.can_join.Goals as goal

pub returns-then-not-ends_on_site : goal.returns-then-not-ends_on_site
returns-then-not-ends_on_site c = joins_nil (site_of c.args.site.now) (link_number c.args.link) c.args.s c.args.t c.ends_on_site.ensures c.if-not-ends_on_site.true

pub returns-in-General : goal.returns-in-General
returns-in-General c = rw c.in-General.is (joins_general (site_of c.args.site.now) c.in-General.field-0.number c.args.s c.args.t c.ends_on_site.ensures c.if-not-ends_on_site.false c.in-General.field-0.within)

pub returns-in-Some : goal.returns-in-Some
unfolding same
returns-in-Some c = rw c.in-Functional.is (joins_there (site_of c.args.site.now) (general_links + c.in-Functional.f.number) c.args.s c.args.t c.ends_on_site.ensures c.if-not-ends_on_site.false (omega arith) (omega (arith, c.in-Functional.f.within)) c.in-Some.ensures.slot c.in-Some.ensures.some)

pub returns-in-None : goal.returns-in-None
returns-in-None c = rw c.in-Functional.is (joins_free (site_of c.args.site.now) (general_links + c.in-Functional.f.number) c.args.s c.args.t c.ends_on_site.ensures c.if-not-ends_on_site.false (omega arith) (omega (arith, c.in-Functional.f.within)) c.in-None.ensures.slot)
