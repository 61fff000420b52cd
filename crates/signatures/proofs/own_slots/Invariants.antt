-- The slots below t are looked at.
use Rattle.signatures.proofs.Laws.Seen.{Owned}
use Rattle.signatures.proofs.own_slots.Given as goal

abbrev pub invariant-loop-t : goal.invariant-loop-t
invariant-loop-t l = Owned l.numbers l.t l.own
