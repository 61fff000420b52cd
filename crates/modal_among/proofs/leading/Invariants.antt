-- The slots of the pool that lead into the set are put in, but for those that are left.
use Rattle.std.proofs.Common.{◌&&◌}
use Rattle.finite.specs.Tests.{any}
use Rattle.bitset.specs.Set.{has}
use Rattle.limits.specs.Limits.{slots}
use Rattle.site.specs.Site.{site_of}
use Rattle.site.specs.Ways.{link_number}
use Rattle.modal_among.proofs.Laws.Gather.{Passed}
use Rattle.bitset.specs.Numbers.{numbers_left}
use Rattle.modal_among.proofs.leading.Given as goal

abbrev pub invariant-loop-s : goal.invariant-loop-s
invariant-loop-s l = Passed (λ k. any slots (λ t. (site_of l.site).link (link_number l.link) k t && has l.set t)) l.pool (numbers_left l.s-iterator.set l.s-iterator.begun l.s-iterator.word) l.found
