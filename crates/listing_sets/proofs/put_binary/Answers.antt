-- The union or the meet is stored.
use Rattle.std.proofs.Common.{sym, ◌∙◌, arith}
use Rattle.bitset.specs.Set.{has}
use Rattle.condition.specs.Bytes.{node_at}
use Rattle.listing_sets.proofs.Laws.Nodes.{makes_or, makes_and}
use Rattle.listing_sets.proofs.Laws.Offsets.{slot_in, written_like}
use Rattle.listing_sets.proofs.put_binary.Goals as goal

pub returns-then-kind-eq-OR : goal.returns-then-kind-eq-OR
returns-then-kind-eq-OR c = λ M. written_like c.store.ensures
    (λ s h. c.bitor.ensures s (slot_in h) ∙ sym (makes_or M (node_at c.args.table.now c.args.i) (has c.args.left) (has c.args.right) s (omega arith)))

pub returns-else-kind-eq-OR : goal.returns-else-kind-eq-OR
returns-else-kind-eq-OR c = λ M. written_like c.store-else-kind-eq-OR.ensures
    (λ s h. c.bitand.ensures s (slot_in h) ∙ sym (makes_and M (node_at c.args.table.now c.args.i) (has c.args.left) (has c.args.right) s (omega arith)))
