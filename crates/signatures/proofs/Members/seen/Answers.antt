-- The classes that the others see are to come.
use Rattle.std.proofs.Common.{◌∙◌, refl, sym, arith}
use Rattle.finite.specs.Tests.{any}
use Rattle.finite.proofs.Laws.Bools.{no_true, not_out}
use Rattle.bitset.specs.Set.{set_slots, has}
use Rattle.partition.specs.Rows.{sees}
use Rattle.signatures.proofs.Laws.Seen.{sees_start, sees_more, sees_fewer, sees_both, sees_done}
use Rattle.signatures.proofs.Members.seen.Goals as goal

pub loop-t-init : goal.loop-t-init
loop-t-init c = sees_start c.args.self.now.numbers c.args.row c.args.self.now.own _ _ c.args.self.now.has_own c.bitand-seen.ensures c.sub-others.ensures

pub loop-t-smaller : goal.loop-t-smaller
loop-t-smaller c = sees_fewer (sees c.args.row c.args.self.now.numbers) c.args.self.now.numbers c.loop-t.others c.loop-t.seen c.args.self.now.classes c.in-Some.t c.from-class.result _ _ c.args.self.now.has_classes c.from-class.ensures (omega arith) (omega arith) c.in-Some.ensures.some c.sub-others-in-Some.ensures

pub loop-t-preserved : goal.loop-t-preserved
loop-t-preserved c = sees_more (sees c.args.row c.args.self.now.numbers) c.args.self.now.numbers c.loop-t.others c.loop-t.seen c.args.self.now.classes c.in-Some.t c.from-class.result _ _ c.args.self.now.has_classes c.from-class.ensures (omega arith) (omega arith) c.in-Some.ensures.some c.sub-others-in-Some.ensures c.insert.new.self c.insert.ensures c.loop-t.invariant

pub returns : goal.returns
returns c = sees_done (sees c.args.row c.args.self.now.numbers) c.args.self.now.numbers c.loop-t.others _ (c.in_default.ensures.none refl) c.loop-t.invariant

pub returns-then-is_empty : goal.returns-then-is_empty
returns-then-is_empty c =
    sees_done (sees c.args.row c.args.self.now.numbers) c.args.self.now.numbers _ _ (no_true (not_out (any set_slots (has c.sub-others.result)) (sym c.is_empty.ensures ∙ c.if-is_empty.true)))
    (sees_start c.args.self.now.numbers c.args.row c.args.self.now.own _ _ c.args.self.now.has_own c.bitand-seen.ensures c.sub-others.ensures)

pub returns-then-few : goal.returns-then-few
returns-then-few c =
    sees_both (sees c.args.row c.args.self.now.numbers) c.args.self.now.numbers _ _ _ c.with_classes.ensures
    (sees_more (sees c.args.row c.args.self.now.numbers) c.args.self.now.numbers c.loop-t.others c.loop-t.seen c.args.self.now.classes c.in-Some.t c.from-class.result _ _ c.args.self.now.has_classes c.from-class.ensures (omega arith) (omega arith) c.in-Some.ensures.some c.sub-others-in-Some.ensures c.insert.new.self c.insert.ensures c.loop-t.invariant)
