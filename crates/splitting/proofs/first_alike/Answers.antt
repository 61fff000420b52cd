-- No slot below t is in the class of s with its row.
use Rattle.std.proofs.Common.{◌≡◌, sym, ◌∙◌, arith}
use Rattle.bitset.specs.Set.{set_slots}
use Rattle.finite.proofs.Laws.First.{first_is, none_more}
use Rattle.partition.proofs.Laws.Partitions.{number_le, number_low}
use Rattle.partition.proofs.Laws.Rows.{by_refl}
use Rattle.partition.specs.Partition.{by_row_of}
use Rattle.splitting.proofs.first_alike.Goals as goal

pub loop-t-init : goal.loop-t-init
loop-t-init c = rw c.from-t.ensures (number_low c.args.q.now c.requires.partition c.args.s (omega arith) c.args.rows.now)

pub returns-then-alike : goal.returns-then-alike
returns-then-alike c = sym (first_is set_slots (by_row_of c.args.q.now c.args.rows.now c.args.s) c.loop-t.t (omega arith) c.loop-t.invariant (sym c.alike.ensures ∙ c.if-alike.true))

pub loop-t-preserved : goal.loop-t-preserved
loop-t-preserved c = none_more (by_row_of c.args.q.now c.args.rows.now c.args.s) c.loop-t.t c.loop-t.invariant (sym c.alike.ensures ∙ c.if-alike.false)

pub returns : goal.returns
returns c = let e : c.loop-t.t ≡ c.args.s = omega (arith, number_le c.args.q.now c.requires.partition c.args.s (omega arith), c.from-t.ensures) in
    sym (first_is set_slots (by_row_of c.args.q.now c.args.rows.now c.args.s) c.args.s (omega arith) (rw e at c.loop-t.invariant) (by_refl c.args.q.now c.args.rows.now c.args.s))
