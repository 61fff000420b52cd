-- q is p split by the ways below w, for every site and every round that p can be the partition of.
use Rattle.std.proofs.Common.{ℕ}
use Rattle.partition.proofs.Laws.Rounds.{upto}
use Rattle.partition.specs.Partition.{Partition, Partitions}
use Rattle.partition.specs.Rows.{Neighbours}
use Rattle.semantics.specs.Holds.{Model}
use Rattle.semantics.specs.Refine.{bisimilar_in}
use Rattle.classes.proofs.round.Given as goal

abbrev pub invariant-loop-w : goal.invariant-loop-w
invariant-loop-w l = Partition l.q × ((M : Model) → Neighbours M l.ways → (k : ℕ) → Partitions (bisimilar_in k M M) l.fn.p → Partitions (upto M M k l.w) l.q)
