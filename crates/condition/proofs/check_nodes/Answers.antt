-- Item 7 by its test, then item 8 by the lowest node that meets it.
use Rattle.std.proofs.Common.{arith, sym, ◌∙◌, length}
use Rattle.condition.proofs.Laws.Verdict.{size_out, missized, malformed, well_formed}
use borrow.Author.Tests.{not-true, not-false}
use Rattle.condition.proofs.check_nodes.Goals as goal

pub returns-then-not-size_fits : goal.returns-then-not-size_fits
returns-then-not-size_fits c = sym (missized _ (sym c.size_fits.ensures ∙ not-true _ c.if-not-size_fits.true-raw))

pub overflow_cast-result : goal.overflow_cast-result
overflow_cast-result c = omega (arith, size_out (length c.args.table.now) (sym c.size_fits.ensures ∙ not-false _ c.if-not-size_fits.false-raw))

pub returns-then-i-table : goal.returns-then-i-table
returns-then-i-table c = sym (malformed _ (sym c.size_fits.ensures ∙ not-false _ c.if-not-size_fits.false-raw) c.first_unfit-i.ensures c.if-i-table.true)

pub returns : goal.returns
returns c = sym (well_formed _ (sym c.size_fits.ensures ∙ not-false _ c.if-not-size_fits.false-raw) c.first_unfit-i.ensures c.if-i-table.false)
