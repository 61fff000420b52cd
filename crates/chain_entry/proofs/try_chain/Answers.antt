-- What the items that are not met say of the inputs.
use Rattle.std.proofs.Common.{arith, refl, sym, ap, ◌∙◌, ℕ, replicate}
use Rattle.refusals.proofs.Laws.Items.{buffer_out, then_out}
use Rattle.chain_entry.proofs.try_chain.Goals as goal

pub search-requires-clause-cond_value : goal.search-requires-clause-cond_value
search-requires-clause-cond_value c = (then_out _ _ (sym c.in_ok-site.ensures.judged.verdict)).1

pub search-requires-clause-free_len : goal.search-requires-clause-free_len
search-requires-clause-free_len c = (omega arith, c.in_ok-site.ensures.judged.rows refl)

pub search-requires-clause-chain_len : goal.search-requires-clause-chain_len
search-requires-clause-chain_len c =
    (buffer_out _ _ (sym c.in_ok-check_length.ensures), (buffer_out _ _ (sym c.in_ok-check_length-2.ensures), buffer_out _ _ (sym c.in_ok-check_length-3.ensures)))

pub returns-clause-work_after : goal.returns-clause-work_after
returns-clause-work_after c = λ _.
    c.search.ensures.work_after ∙ ap (λ (k : ℕ). replicate k 0) (sym (buffer_out _ _ (sym c.in_ok-check_length-3.ensures)))
