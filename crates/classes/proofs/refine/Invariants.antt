-- p is the partition after as many rounds as were made.
use Rattle.std.proofs.Common.{◌≡◌, length}
use Rattle.bitset.specs.Set.{set_slots}
use Rattle.partition.specs.Partition.{Partitions}
use Rattle.semantics.specs.Refine.{bisimilar_in}
use Rattle.site.specs.Site.{site_of}
use Rattle.classes.proofs.refine.Given as goal

abbrev pub invariant-loop-round : goal.invariant-loop-round
invariant-loop-round l = (length l.p ≡ set_slots) × Partitions (bisimilar_in l._round (site_of l.site) (site_of l.site)) l.p
