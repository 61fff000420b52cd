-- The classes that the others see are to come.
use Rattle.finite.specs.Tests.{count}
use Rattle.bitset.specs.Set.{set_slots, has}
use Rattle.partition.specs.Rows.{sees}
use Rattle.signatures.proofs.Laws.Seen.{Sees}
use Rattle.signatures.proofs.Members.seen.Given as goal

abbrev pub invariant-loop-t : goal.invariant-loop-t
invariant-loop-t l = Sees (sees l.fn.row l.self.numbers) l.self.numbers l.others l.seen

abbrev pub decreases-loop-t : goal.decreases-loop-t
decreases-loop-t l = count set_slots (has l.others)
