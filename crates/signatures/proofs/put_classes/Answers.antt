-- The slots below t are in the classes of their numbers.
use Rattle.std.proofs.Common.{Bool, ◌&&◌, ◌||◌, ◌∙◌, ap, get_or, arith}
use Rattle.finite.specs.Tests.{same, any}
use Rattle.bitset.specs.Set.{set_slots}
use Rattle.partition.proofs.Laws.Gains.{gains_start, gains_more, gains_done, gains_put, gains_map}
use Rattle.signatures.proofs.Laws.Seen.{numbered}
use Rattle.signatures.proofs.put_classes.Goals as goal

pub loop-t-init : goal.loop-t-init
loop-t-init c = gains_start (λ k x y. same x (get_or c.args.numbers.now k 0) && same y k)

pub loop-t-preserved : goal.loop-t-preserved
loop-t-preserved c = gains_more (λ k x y. same x (get_or c.args.numbers.now k 0) && same y k) c.loop-t.t c.loop-t.invariant
    (gains_map (λ x y _ _. rw c.from.ensures) (gains_put c.loop-t.classes c.from.result c.loop-t.t _ _ (omega arith) c.insert.ensures))

pub returns : goal.returns
returns c = λ x y i j.
    (gains_done (λ k x y. same x (get_or c.args.numbers.now k 0) && same y k) set_slots c.loop-t.t c.loop-t.invariant (omega arith) (omega arith)).holds x y i j
    ∙ ap (λ (z : Bool). z || any set_slots (λ k. same x (get_or c.args.numbers.now k 0) && same y k)) (c.requires x y i j) ∙ numbered c.args.numbers.now x y j
