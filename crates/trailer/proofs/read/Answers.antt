-- By the test of item 2, then by that of item 18; the starts of a file that item 2 does not refuse are in order.
use Rattle.std.proofs.Common.{refl, sym, ◌∙◌, arith}
use Rattle.trailer.proofs.Laws.Pieces.{cut_none, cut_unknown, cut_read}
use Rattle.trailer.proofs.Laws.Verdict.{laid}
use borrow.Author.Tests.{not-true, not-false}
use Rattle.trailer.proofs.read.Goals as goal

pub returns-then-refused : goal.returns-then-refused
returns-then-refused c = cut_none _ (sym c.refused.ensures ∙ c.if-refused.true)

pub read_number-edition-requires : goal.read_number-edition-requires
read_number-edition-requires c = ((laid _ (sym c.refused.ensures ∙ c.if-refused.false)).enough, omega arith)

pub returns-then-not-known : goal.returns-then-not-known
returns-then-not-known c = cut_unknown _ (sym c.refused.ensures ∙ c.if-refused.false) c.read_number-edition.ensures.0 c.known.ensures
    (not-true _ c.if-not-known.true-raw)

pub overflow_sub-e : goal.overflow_sub-e
overflow_sub-e c = omega (arith, (laid _ (sym c.refused.ensures ∙ c.if-refused.false)).enough)

pub returns : goal.returns
returns c = cut_read _ (sym c.refused.ensures ∙ c.if-refused.false) c.read_number-edition.ensures.0 c.known.ensures
    (not-false _ c.if-not-known.false-raw) c.start-a.ensures.0 c.start-b.ensures.0 refl
