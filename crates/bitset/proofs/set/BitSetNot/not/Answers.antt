use Rattle.std.proofs.Common.{not, ◌-◌, ◌^◌, rules}
use Rattle.bitset.specs.Words.{Fit}
use Rattle.bitset.proofs.Laws.Sets.{each_shown, complement_bits}
use Rattle.bitset.proofs.set.BitSetNot.not.Goals as goal

pub returns : goal.returns
returns g c =
    let fits : Fit g.row.W c.zip.result = search rules in
    each_shown (λ a b. not a) (λ w v. 2 ^ 64 - 1 - w) complement_bits g.row.W c.self.inside.words c.self.inside.words c.zip.result c.self.invariant c.self.invariant fits c.self.view_is c.self.view_is c.zip.ensures
