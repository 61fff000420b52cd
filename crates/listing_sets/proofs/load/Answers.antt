-- The part of set j, read.
use Rattle.std.proofs.Common.{◌∙◌, ap, List, ℕ, length, length-drop, length-take-le, drop, ◌*◌, arith}
use Rattle.bitset.specs.Set.{has}
use Rattle.limits.specs.Limits.{slots}
use Rattle.listing_sets.proofs.Laws.Offsets.{part_set, span}
use Rattle.listing_sets.proofs.load.Goals as goal

pub returns-clause-set : goal.returns-clause-set
unfolding slots
returns-clause-set c = λ s h. ap (λ (S : List ℕ). has S s) c.read.ensures.bytes ∙ part_set c.args.buf.now c.args.j s h

pub returns-clause-size : goal.returns-clause-size
returns-clause-size c =
    let whole = length-drop (32 * c.args.j) c.args.buf.now in
    omega (arith, ap length c.read.ensures.bytes, length-take-le (span c.args.j) (drop (32 * c.args.j) c.args.buf.now) (omega (arith, whole)))
