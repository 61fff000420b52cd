-- All nodes are visited, then item 9 and item 10 are tested by their words.
use Rattle.std.proofs.Common.{arith, ℕ, ◌∙◌, sym, ap, length}
use Rattle.std.proofs.lemmas.Result.{err_from_is_err_and}
use Rattle.condition.proofs.Laws.Verdict.{nodes_accepted}
use Rattle.even_rule.proofs.Laws.Answer.{fit, even_refused, answer_10, answer_none}
use Rattle.even_rule.proofs.Laws.Check.{none_done}
use Rattle.limits.specs.Limits.{table_nodes}
use lib.ListN.{length-replicate}
use Rattle.even_rule.proofs.check_rules.Goals as goal

pub visit_all-requires-clause-visitable : goal.visit_all-requires-clause-visitable
visit_all-requires-clause-visitable c = let size = (nodes_accepted _ c.requires.nodes).0 in
    (none_done (fit c.args.table.now c.requires.nodes) (omega (arith, size)))

pub visit_all-requires-clause-table_len : goal.visit_all-requires-clause-table_len
visit_all-requires-clause-table_len c = let size = (nodes_accepted _ c.requires.nodes).0 in omega (arith, size)

pub check_even-requires-clause-fit : goal.check_even-requires-clause-fit
check_even-requires-clause-fit c = fit c.args.table.now c.requires.nodes

pub returns-in_err-check_even : goal.returns-in_err-check_even
returns-in_err-check_even c = let p = err_from_is_err_and c.from_residual.result c.from_residual.ensures.1 in
    rw (p.1, p.2) (even_refused _ _ c.requires.free_value c.requires.nodes c.in_err-check_even.ensures)

pub overflow_sub-last : goal.overflow_sub-last
overflow_sub-last c = let size = (nodes_accepted _ c.requires.nodes).0 in omega (arith, size)

pub bounds-words-last : goal.bounds-words-last
bounds-words-last c = let size = (nodes_accepted _ c.requires.nodes).0 in omega (arith, size)

pub returns-then-free_in-gt0 : goal.returns-then-free_in-gt0
returns-then-free_in-gt0 c =
    answer_10 _ _ c.requires.free_value c.requires.nodes (sym c.in_ok-check_even.ensures) c.visit_all.ensures c.free_in.ensures c.if-free_in-gt0.true

pub unite-requires : goal.unite-requires
unite-requires c = let size = (nodes_accepted _ c.requires.nodes).0 in
    (omega (arith, size), ap length c.requires.free_value ∙ length-replicate {A = ℕ} table_nodes 0)

pub returns : goal.returns
returns c =
    answer_none _ _ c.requires.free_value c.requires.nodes (sym c.in_ok-check_even.ensures) c.visit_all.ensures c.free_in.ensures c.if-free_in-gt0.false c.unite.ensures
