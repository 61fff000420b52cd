-- The links below m have their rows, and the rows of their reverses; the rows of the other reverses are empty.
use Rattle.std.proofs.Common.{arith}
use Rattle.site.specs.Site.{site_of}
use Rattle.neighbours.proofs.Laws.Steps.{upto_start, upto_more, upto_all, upto_used}
use Rattle.neighbours.proofs.of_site.Goals as goal

pub loop-m-init : goal.loop-m-init
loop-m-init c = upto_start (site_of c.args.site.now) c.args.ways.now _ _ _ (omega (arith, c.split_at_mut-ahead.ensures.front_len)) (omega (arith, c.split_at_mut-ahead.ensures.back_len)) (omega arith) c.split_at_mut-ahead.ensures.value c.requires

pub join-leads-requires : goal.join-leads-requires
join-leads-requires c = c.loop-m.invariant.empty c.loop-m.m (omega arith) (omega arith)

pub loop-m-preserved : goal.loop-m-preserved
loop-m-preserved c = upto_more (site_of c.args.site.now) c.loop-m.m c.loop-m.ahead c.loop-m.back c.loop-m.used c.join-leads.new.ahead c.join-leads.new.back c.join-leads.result (omega arith)
    (record { along = rw c.at.ensures at c.join-leads.ensures.along; against = rw c.at.ensures at c.join-leads.ensures.against }) (rw c.at.ensures at c.join-leads.ensures.used)
    c.loop-m.invariant

pub returns-clause-neighbours : goal.returns-clause-neighbours
returns-clause-neighbours c = upto_all (site_of c.args.site.now) c.loop-m.m c.loop-m.ahead c.loop-m.back c.loop-m.used (omega arith) c.loop-m.invariant

pub returns-clause-used : goal.returns-clause-used
returns-clause-used c = upto_used (site_of c.args.site.now) c.loop-m.m c.loop-m.ahead c.loop-m.back c.loop-m.used (omega arith) c.loop-m.invariant
