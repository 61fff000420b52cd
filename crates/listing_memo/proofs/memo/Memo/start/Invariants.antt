-- The masks of the first j nodes are noted.
use Rattle.listing_memo.specs.Memo.{Started}
use Rattle.listing_memo.proofs.memo.Memo.start.Given as goal

abbrev pub invariant-loop-j : goal.invariant-loop-j
invariant-loop-j l = Started l.masks l.self l.j
