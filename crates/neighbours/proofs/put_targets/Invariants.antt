-- The rows below s have their targets.
use Rattle.std.proofs.Common.{ℕ, ◌<◌}
use Rattle.bitset.specs.Set.{Is}
use Rattle.site.specs.Site.{site_of}
use Rattle.site.specs.Ways.{link_number}
use Rattle.partition.specs.Rows.{row}
use Rattle.neighbours.proofs.Laws.Steps.{Reached}
use Rattle.neighbours.proofs.put_targets.Given as goal

abbrev pub invariant-loop-s : goal.invariant-loop-s
invariant-loop-s l = ((k : ℕ) → k < l.s → Is (row l.rows k) ((site_of l.site).link (link_number l.link) k)) × Reached ((site_of l.site).link (link_number l.link)) l.s l.reached
