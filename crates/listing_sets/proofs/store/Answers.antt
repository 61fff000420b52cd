-- The set, written into the part that is lent.
use Rattle.std.proofs.Common.{ap, List, ℕ, arith}
use Rattle.bitset.specs.Set.{has}
use Rattle.limits.specs.Limits.{slots}
use Rattle.listing_sets.proofs.Laws.Offsets.{set_written}
use Rattle.listing_sets.proofs.store.Goals as goal

pub returns : goal.returns
unfolding slots
returns c = set_written c.args.buf.now c.args.j (omega arith) c.write.new.part c.write.auto.part _ (λ s h. ap (λ (S : List ℕ). has S s) c.write.ensures)
