use Rattle.std.proofs.Common.{◌||◌, rules}
use Rattle.std.specs.Int.Bits.{bit_or}
use Rattle.bitset.specs.Words.{Fit}
use Rattle.bitset.proofs.Laws.Sets.{each_shown, union_bits}
use Rattle.bitset.proofs.set.BitSetBitOr.bitor.Goals as goal

pub returns : goal.returns
returns g c =
    let fits : Fit g.row.W c.zip.result = search rules in
    each_shown ◌||◌ bit_or union_bits g.row.W c.self.inside.words c.other.inside.words c.zip.result c.self.invariant c.other.invariant fits c.self.view_is c.other.view_is c.zip.ensures
