-- What the items that are not met say of the inputs.
use Rattle.std.proofs.Common.{arith, sym}
use Rattle.apply_entry.proofs.Laws.Applying.{site_written}
use Rattle.refusals.proofs.Laws.Items.{buffer_out}
use Rattle.apply_entry.proofs.try_apply.Goals as goal

pub apply-requires : goal.apply-requires
apply-requires c =
    (sym c.in_ok-check-2.ensures, (sym c.in_ok-check-3.ensures, buffer_out _ _ (sym c.in_ok-check_length.ensures)))

pub returns-clause-written : goal.returns-clause-written
returns-clause-written c = λ e. site_written c.apply.ensures e (λ k. omega (arith, c.type_inv.res k))
