-- The lowest number of the word is the lowest of all; without it there are fewer.
use Rattle.std.proofs.Common.{◌*◌, refl}
use Rattle.bitset.proofs.Laws.Sets.{fewer}
use Rattle.bitset.proofs.Laws.Numbers.{number_taken, next_alike}
use Rattle.bitset.proofs.set.NumbersIterator.next.Goals as goal

pub returns-clause-steps : goal.returns-clause-steps
returns-clause-steps g c =
    let b = c.in_ok-begun.ensures.begun in
    next_alike (64 * g.row.W) _ _ _ _ c.in_ok-begun.ensures.same
    (number_taken c.args.self.now.set g.row.W c.in_ok-begun.begun c.in_ok-begun.word _ b.0 b.1 b.2 b.3 refl)

pub returns-clause-goes : goal.returns-clause-goes
returns-clause-goes g c =
    let b = c.in_ok-begun.ensures.begun in
    let n = next_alike (64 * g.row.W) _ _ _ _ c.in_ok-begun.ensures.same
    (number_taken c.args.self.now.set g.row.W c.in_ok-begun.begun c.in_ok-begun.word _ b.0 b.1 b.2 b.3 refl) in
    record { on = λ _. (tt, tt, fewer (64 * g.row.W) _ _ _ n.0 n.1 n.2); keeps = tt; rests = λ _. tt }
