-- The goal is listed, and then the chain or the set is found.
use Rattle.std.proofs.Common.{◌≡◌, ◌∙◌, ap, ℕ, length, replicate, arith}
use Rattle.listing.specs.Listed.{work_bytes}
use Rattle.chain_entry.proofs.Laws.Chaining.{searched_given, searched_reached}
use Rattle.chain_entry.proofs.search.Goals as goal

pub returns-in-Steps-clause-work_after : goal.returns-in-Steps-clause-work_after
returns-in-Steps-clause-work_after c =
    let long : length c.list_all.new.work ≡ work_bytes = omega (arith, c.requires.chain_len.1.1) in
    c.in-Steps.ensures.work_after ∙ ap (λ (k : ℕ). replicate k 0) long

pub returns-in-Reached-clause-searched : goal.returns-in-Reached-clause-searched
returns-in-Reached-clause-searched c = λ n e.
    searched_reached c.list_all.ensures.listed e (rw c.read-goal.ensures.bytes at c.in-Reached.ensures.answer) c.write.ensures (omega (arith, c.requires.chain_len.1.0)) (λ k. (c.type_inv.set k).fits)

pub returns-in-Reached-clause-work_after : goal.returns-in-Reached-clause-work_after
returns-in-Reached-clause-work_after c =
    let long : length c.list_all.new.work ≡ work_bytes = omega (arith, c.requires.chain_len.1.1) in
    c.in-Reached.ensures.work_after ∙ ap (λ (k : ℕ). replicate k 0) long
