-- The slots below s that lead into the set are put in.
use Rattle.std.proofs.Common.{◌&&◌}
use Rattle.finite.specs.Tests.{any}
use Rattle.bitset.specs.Set.{has}
use Rattle.limits.specs.Limits.{slots}
use Rattle.site.specs.Site.{site_of}
use Rattle.site.specs.Ways.{link_number}
use Rattle.modal.proofs.Laws.Gather.{Chosen}
use Rattle.modal.proofs.preimage.Given as goal

abbrev pub invariant-loop-s : goal.invariant-loop-s
invariant-loop-s l = Chosen (λ k. any slots (λ t. (site_of l.site).link (link_number l.link) k t && has l.set t)) l.found l.s
