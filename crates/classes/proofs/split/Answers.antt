-- A way that is not used leaves the classes as they are.
use Rattle.std.proofs.Common.{sym, ◌∙◌}
use Rattle.finite.proofs.Laws.Below.{any_none}
use Rattle.bitset.specs.Set.{set_slots}
use Rattle.partition.specs.Rows.{in_row}
use Rattle.partition.proofs.Laws.Rows.{unseen_partition}
use Rattle.classes.proofs.split.Goals as goal

pub returns-else-used : goal.returns-else-used
returns-else-used c = unseen_partition c.args.rows.now c.args.p.now.numbers c.args.q.now
    (λ s t h. any_none set_slots (in_row c.args.rows.now s) (any_none set_slots _ (sym c.requires.used ∙ c.if-used.false) s h) t)
    c.requires.partition
