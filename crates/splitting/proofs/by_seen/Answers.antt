-- By the signatures.
use Rattle.partition.proofs.Laws.Rows.{signed_partition}
use Rattle.splitting.proofs.by_seen.Goals as goal

pub returns : goal.returns
returns c = signed_partition c.args.rows.now c.args.p.now.numbers c.of_rows.new.signatures _ _ c.of_rows.ensures c.by_rows.ensures
