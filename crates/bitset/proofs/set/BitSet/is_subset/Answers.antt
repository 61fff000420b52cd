-- The numbers of the words below k pass where nothing is outside.
use Rattle.std.proofs.Common.{sym, ◌*◌, arith}
use Rattle.bitset.proofs.Laws.Sets.{shown_small, shown_word}
use Rattle.bitset.proofs.Laws.Test.{test_none, test_done, subset_more}
use Rattle.bitset.proofs.set.BitSet.is_subset.Goals as goal

pub loop-k-init : goal.loop-k-init
loop-k-init g c = test_none _

pub loop-k-preserved : goal.loop-k-preserved
loop-k-preserved g c =
    subset_more _ _ (8 * c.loop-k.k) _ _ (shown_small _ _ c.self.invariant c.self.view_is) (shown_small _ _ c.other.invariant c.other.view_is)
    (shown_word _ _ c.self.invariant c.self.view_is c.loop-k.k (omega arith)) (shown_word _ _ c.other.invariant c.other.view_is c.loop-k.k (omega arith)) (omega arith)
    c.loop-k.invariant

pub returns : goal.returns
returns g c = sym (test_done _ (64 * g.row.W) (8 * c.loop-k.k) _ c.loop-k.invariant (omega arith))
