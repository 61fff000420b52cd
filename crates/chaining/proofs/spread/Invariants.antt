-- After k rounds: the slots found, those of the last round, and those of the rounds before.
use Rattle.std.proofs.Common.{◌≡◌, length}
use Rattle.bitset.specs.Set.{has}
use Rattle.chaining.specs.Rounds.{Spreading}
use Rattle.site.specs.Site.{site_of}
use Rattle.site.specs.Ways.{meant}
use Rattle.chaining.proofs.spread.Given as goal

abbrev pub invariant-loop-k : goal.invariant-loop-k
invariant-loop-k l = (length l.fronts ≡ length l.fn.fronts) × Spreading (site_of l.site) (meant l.way) (has l.source) (has l.stop) l.fronts l.found l.front l.k
