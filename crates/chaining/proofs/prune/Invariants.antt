-- The layers up to j are there.
use Rattle.std.proofs.Common.{◌≡◌, ◌≤◌, length}
use Rattle.bitset.specs.Set.{has}
use Rattle.chaining.proofs.Laws.Prune.{Pruning}
use Rattle.site.specs.Site.{site_of}
use Rattle.site.specs.Ways.{meant}
use Rattle.chaining.proofs.prune.Given as goal

abbrev pub invariant-loop-j : goal.invariant-loop-j
invariant-loop-j l = (l.j ≤ l.last) × (length l.layers ≡ length l.fn.layers) × Pruning (site_of l.site) (meant l.way) (has l.goal) l.last l.fronts l.layers l.layer l.j
