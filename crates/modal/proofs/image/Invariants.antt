-- The slots that those of the set lead to are put in, but for what those do that are left.
use Rattle.site.specs.Site.{site_of}
use Rattle.site.specs.Ways.{link_number}
use Rattle.modal.proofs.Laws.Gather.{Gathered}
use Rattle.bitset.specs.Numbers.{numbers_left}
use Rattle.modal.proofs.image.Given as goal

abbrev pub invariant-loop-t : goal.invariant-loop-t
invariant-loop-t l = Gathered ((site_of l.site).link (link_number l.link)) l.set (numbers_left l.t-iterator.set l.t-iterator.begun l.t-iterator.word) l.found
