-- The slots below s have their new numbers.
use Rattle.std.proofs.Common.{◌≡◌, ℕ, arith, length-set, below_none}
use Rattle.bitset.specs.Set.{set_slots}
use Rattle.finite.specs.Tests.{first}
use Rattle.partition.proofs.Laws.Partitions.{put_more}
use Rattle.partition.proofs.Laws.Rows.{rows_partition}
use Rattle.partition.specs.Partition.{by_row_of}
use Rattle.splitting.proofs.by_rows.Goals as goal

pub loop-s-init : goal.loop-s-init
loop-s-init c = (omega arith, below_none _)

pub loop-s-preserved : goal.loop-s-preserved
loop-s-preserved c = (
  simp length-set c.loop-s.invariant.0,
  put_more 0 (λ (k v : ℕ). v ≡ first set_slots (by_row_of c.args.q.now c.args.rows.now k)) c.loop-s.r c.loop-s.s _ (omega arith) c.loop-s.invariant.1 c.first_alike.ensures,
)

pub returns : goal.returns
returns c = rows_partition c.args.q.now c.args.rows.now _ (λ s h. c.loop-s.invariant.1 s (omega arith))
