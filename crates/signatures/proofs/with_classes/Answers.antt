-- The classes that the slots that are left are in are to come.
use Rattle.std.specs.Prelude.{◌||◌}
use Rattle.bitset.specs.Set.{has}
use Rattle.partition.specs.Rows.{sees}
use Rattle.signatures.proofs.Laws.Seen.{sees_all, sees_slot, sees_done}
use Rattle.signatures.proofs.with_classes.Goals as goal

pub loop-t-init : goal.loop-t-init
loop-t-init c = sees_all c.args.numbers.now c.args.set _ c.args.seen c.into_iter-t-iterator.ensures.into_iter_gives

pub loop-t-preserved : goal.loop-t-preserved
loop-t-preserved c =
    sees_slot (λ x. has c.args.seen x || sees c.args.set c.args.numbers.now x) c.args.numbers.now _ c.loop-t.seen c.in-Some.t c.from.result _ c.insert.new.self c.in-Some.ensures.steps c.from.ensures c.insert.ensures c.loop-t.invariant

pub returns : goal.returns
returns c = sees_done (λ x. has c.args.seen x || sees c.args.set c.args.numbers.now x) c.args.numbers.now _ _ c.in-None.ensures.steps c.loop-t.invariant
