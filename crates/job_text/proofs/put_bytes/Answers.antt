-- Nothing is written yet; then two digits more.
use Rattle.std.proofs.Common.{arith}
use Rattle.job_text.proofs.Laws.PutHex.{hex_then, hex_none}
use Rattle.job_text.proofs.put_bytes.Goals as goal

pub loop-x-init : goal.loop-x-init
loop-x-init c = (omega arith, hex_none c.args.text.now c.args.bytes.now c.args.at)

pub loop-x-preserved : goal.loop-x-preserved
loop-x-preserved c =
    (omega (arith, c.loop-x.invariant.0, c.put-end.ensures.ends), hex_then _ _ _ _ c.loop-x.invariant.1 c.put-end.ensures (omega arith) c.digit.ensures c.digit-in-loop-x.ensures)
