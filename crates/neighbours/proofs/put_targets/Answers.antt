-- The rows below s have their targets.
use Rattle.std.proofs.Common.{ℕ, List, [], below_none, arith}
use Rattle.bitset.specs.Set.{Is}
use Rattle.site.specs.Site.{site_of}
use Rattle.site.specs.Ways.{link_number}
use Rattle.partition.proofs.Laws.Partitions.{put_more}
use Rattle.neighbours.proofs.Laws.Steps.{reached_start, reached_more, reached_done}
use Rattle.neighbours.proofs.put_targets.Goals as goal

pub loop-s-init : goal.loop-s-init
loop-s-init c = (below_none _, reached_start ((site_of c.args.site.now).link (link_number c.args.link)) _ c.empty-reached.ensures)

pub loop-s-preserved : goal.loop-s-preserved
loop-s-preserved c = let E = (site_of c.args.site.now).link (link_number c.args.link) in (
  put_more [] (λ (k : ℕ) (x : List ℕ). Is x (E k)) c.loop-s.rows c.loop-s.s _ (omega arith) c.loop-s.invariant.0 c.targets-targets.ensures,
  reached_more E c.loop-s.s c.loop-s.reached _ c.targets-targets.result c.targets-targets.ensures c.bitor-reached.ensures c.loop-s.invariant.1,
)

pub returns-clause-rows : goal.returns-clause-rows
returns-clause-rows c = λ s t i j. c.loop-s.invariant.0 s (omega arith) t j

pub returns-clause-reached : goal.returns-clause-reached
returns-clause-reached c = reached_done ((site_of c.args.site.now).link (link_number c.args.link)) c.loop-s.s c.loop-s.reached (omega arith) c.loop-s.invariant.1
