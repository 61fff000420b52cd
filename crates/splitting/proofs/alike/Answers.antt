-- By the classes, and then by the rows.
use Rattle.std.proofs.Common.{sym, ◌∙◌, ap₂, arith}
use Rattle.finite.specs.Tests.{same}
use Rattle.finite.proofs.Laws.Below.{ne_same}
use Rattle.partition.specs.Rows.{same_set, same_row}
use Rattle.partition.proofs.Laws.Gains.{row_at}
use Rattle.partition.proofs.Laws.Rows.{by_apart, by_same}
use Rattle.splitting.proofs.alike.Goals as goal

pub returns-then-q-s : goal.returns-then-q-s
unfolding same_row
returns-then-q-s c = let R = c.args.rows.now in
    c.same.ensures ∙ ap₂ same_set (row_at R c.args.s _ (omega arith)) (row_at R c.args.t _ (omega arith)) ∙ by_same c.args.q.now R c.args.s c.args.t c.if-q-s.true

pub returns-else-q-s : goal.returns-else-q-s
unfolding same
returns-else-q-s c = ne_same c.if-q-s.false ∙ sym (by_apart c.args.q.now c.args.rows.now c.args.s c.args.t c.if-q-s.false)
