-- The masks of an accepted condition are those of its free variables.
use Rattle.std.proofs.Common.{rules}
use Rattle.even_rule.specs.Free.{FreeAfter}
use Rattle.test_lists.proofs.try_without_limit.Goals as goal

pub compare-requires-clause-free_len : goal.compare-requires-clause-free_len
unfolding FreeAfter
compare-requires-clause-free_len g c = (search rules, c.in-Ok.ensures.masks)
