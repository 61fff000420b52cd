-- The steps, and then the walk; or the set that can be reached.
use Rattle.std.proofs.Common.{◌∙◌, ap, ℕ, replicate}
use Rattle.chaining.proofs.Laws.Answer.{away_kept, layers_kept, answer_found, answer_none}
use Rattle.chaining.proofs.search_over.Goals as goal

pub descend-requires-clause-away : goal.descend-requires-clause-away
descend-requires-clause-away c = away_kept c.in-Steps.ensures c.ranges.start.fits

pub descend-requires-clause-layered : goal.descend-requires-clause-layered
descend-requires-clause-layered c = layers_kept c.in-Steps.ensures

pub returns-in-Steps : goal.returns-in-Steps
returns-in-Steps c = answer_found c.in-Steps.ensures c.ranges.start.fits c.descend.ensures

pub returns-in-Reached : goal.returns-in-Reached
returns-in-Reached c = answer_none c.in-Reached.ensures (c.fill.ensures.after (λ y e. e) ∙ ap (λ (n : ℕ). replicate n 0) c.requires.chain_len)
