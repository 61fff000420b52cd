-- The table is rewritten, and to go through a condition is put behind it.
use Rattle.std.proofs.Common.{arith}
use Rattle.std.proofs.lemmas.Result.{err_from_is_err_and}
use Rattle.condition.specs.Bytes.{nodes}
use Rattle.condition.proofs.Laws.Bytes.{length-nodes}
use Rattle.semantics.proofs.Laws.Rewrite.{table_some_lem}
use Rattle.sheet.specs.Bytes.{edit_of}
use Rattle.rewriting.proofs.Laws.Passes.{made_behind, pass_long}
use Rattle.rewriting.proofs.pass.Goals as goal

pub returns-in_err-made : goal.returns-in_err-made
returns-in_err-made c =
    let p = err_from_is_err_and c.from_residual.result c.from_residual.ensures.1 in
    rw (p.1, p.2) (pass_long c.args.purpose (edit_of c.args.e) (nodes c.args.table.now c.args.n) c.rewrite.new.out c.rewrite.new.out (rw c.in_err-made.was at c.rewrite.ensures))

pub put_behind-requires-clause-some : goal.put_behind-requires-clause-some
put_behind-requires-clause-some c =
    let m = rw c.in_ok-made.was at c.rewrite.ensures in
    omega (arith, m.0, table_some_lem (edit_of c.args.e) c.requires.legal (nodes c.args.table.now c.args.n) c.requires.fits (omega (arith, c.requires.count, length-nodes c.args.table.now c.args.n)))

pub returns-in-GoThrough : goal.returns-in-GoThrough
returns-in-GoThrough c =
    let m = rw c.in_ok-made.was at c.rewrite.ensures in
    rw c.in-GoThrough.is (made_behind (edit_of c.args.e) (nodes c.args.table.now c.args.n) m.0 c.rewrite.new.out c.put_behind.new.out c.put_behind.result m.2 (omega arith) c.put_behind.ensures)
