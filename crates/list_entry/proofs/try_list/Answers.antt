-- The items in their order, then the condition is listed.
use Rattle.std.proofs.Common.{arith, refl, sym}
use Rattle.verdict.proofs.Laws.{passed_on}
use Rattle.refusals.proofs.Laws.Items.{buffer_out, limit_out, then_out}
use Rattle.list_entry.specs.Refusal.{list_inputs}
use Rattle.list_entry.proofs.Laws.Listing.{tried_refused, tried_over, tried_within}
use Rattle.list_entry.proofs.try_list.Goals as goal

pub returns-in_err-check_length : goal.returns-in_err-check_length
unfolding list_inputs
returns-in_err-check_length c = rw (passed_on c.from_residual.ensures.1) (tried_refused (rw (← c.in_err-check_length.ensures)))

pub returns-in_err-check_length-2 : goal.returns-in_err-check_length-2
unfolding list_inputs
returns-in_err-check_length-2 c =
    rw (passed_on c.from_residual-in_err-check_length-2.ensures.1)
    (tried_refused (rw (← c.in_ok-check_length.ensures, ← c.in_err-check_length-2.ensures)))

pub returns-in_err-check_limit : goal.returns-in_err-check_limit
unfolding list_inputs
returns-in_err-check_limit c =
    rw (passed_on c.from_residual-in_err-check_limit.ensures.1)
    (tried_refused (rw (← c.in_ok-check_length.ensures, ← c.in_ok-check_length-2.ensures, ← c.in_err-check_limit.ensures)))

pub returns-in_err-site : goal.returns-in_err-site
unfolding list_inputs
returns-in_err-site c =
    rw (passed_on c.from_residual-in_err-site.ensures.1)
    (tried_refused
    (rw (← c.in_ok-check_length.ensures, ← c.in_ok-check_length-2.ensures, ← c.in_ok-check_limit.ensures, ← c.in_err-site.ensures.judged.verdict)))

pub list-found-requires-clause-table_value : goal.list-found-requires-clause-table_value
list-found-requires-clause-table_value c = (then_out _ _ (sym c.in_ok-site.ensures.judged.verdict)).1

pub list-found-requires-clause-free_len : goal.list-found-requires-clause-free_len
list-found-requires-clause-free_len c = (omega arith, c.in_ok-site.ensures.judged.rows refl)

pub list-found-requires-clause-limit_le_highest_limit : goal.list-found-requires-clause-limit_le_highest_limit
list-found-requires-clause-limit_le_highest_limit c = limit_out _ (sym c.in_ok-check_limit.ensures)

pub list-found-requires-clause-set_len : goal.list-found-requires-clause-set_len
list-found-requires-clause-set_len c = (buffer_out _ _ (sym c.in_ok-check_length.ensures), buffer_out _ _ (sym c.in_ok-check_length-2.ensures))

pub returns-in_err-check_rounds : goal.returns-in_err-check_rounds
unfolding list_inputs
returns-in_err-check_rounds c =
    rw (passed_on c.from_residual-in_err-check_rounds.ensures.1)
    (tried_over
    (rw (
      ← c.in_ok-check_length.ensures,
      ← c.in_ok-check_length-2.ensures,
      ← c.in_ok-check_limit.ensures,
      ← c.in_ok-site.ensures.judged.verdict,
    ))
    (rw c.in_ok-site.ensures.site at c.list-found.ensures.limited) c.list-found.ensures.work_after c.in_err-check_rounds.ensures)

pub returns : goal.returns
unfolding list_inputs
returns c =
    tried_within
    (rw (
      ← c.in_ok-check_length.ensures,
      ← c.in_ok-check_length-2.ensures,
      ← c.in_ok-check_limit.ensures,
      ← c.in_ok-site.ensures.judged.verdict,
    ))
    (rw c.in_ok-site.ensures.site at c.list-found.ensures.limited) c.list-found.ensures.work_after c.in_ok-check_rounds.ensures
