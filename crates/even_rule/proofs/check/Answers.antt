-- Items 7 and 8, then the rules.
use Rattle.std.proofs.lemmas.Result.{err_from_is_err_and}
use Rattle.even_rule.proofs.Laws.Answer.{nodes_refused}
use Rattle.even_rule.proofs.check.Goals as goal

pub returns-in_err-check_nodes : goal.returns-in_err-check_nodes
returns-in_err-check_nodes c = let p = err_from_is_err_and c.from_residual.result c.from_residual.ensures.1 in
    rw (p.1, p.2) (nodes_refused _ _ c.requires c.in_err-check_nodes.ensures)
