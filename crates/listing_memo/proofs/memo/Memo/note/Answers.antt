-- The digits below x are noted.
use Rattle.std.proofs.Common.{◌∙◌, arith, length-set}
use Rattle.listing_memo.proofs.Laws.Memo.{noted_none, noted_skip, noted_more, noted_done, none_left, digit_is, digit-not}
use Rattle.listing_memo.proofs.memo.Memo.note.Goals as goal
use Rattle.listing_memo.proofs.memo.Memo.note.Goals.{then-left-eq1, else-left-eq1}

pub loop-x-init : goal.loop-x-init
loop-x-init c = (omega arith, omega arith, noted_none)

pub returns-then-left-eq0 : goal.returns-then-left-eq0
returns-then-left-eq0 c = noted_done c.loop-x.invariant.2 (λ y h l. none_left c.args.mask c.loop-x.x c.if-left-eq0.true y h)

pub loop-x-preserved : goal.loop-x-preserved
loop-x-preserved c =
    let noted = c.loop-x.invariant.2 in
    elim c.if-left-eq1.branch [
      | then-left-eq1 w ↦ rw w.self-is (
        length-set c.loop-x.self.free_in c.loop-x.x _ ∙ c.loop-x.invariant.0,
        omega arith,
        noted_more noted _ _ c.loop-x.invariant.0 c.loop-x-test.true (digit_is c.args.mask c.loop-x.x w.if-left-eq1.true) w.insert.ensures,
      )
      | else-left-eq1 w ↦ rw w.self-is (c.loop-x.invariant.0, omega arith, noted_skip noted (digit-not c.args.mask c.loop-x.x w.if-left-eq1.false))
    ]
