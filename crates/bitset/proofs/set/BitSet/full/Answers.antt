use Rattle.std.proofs.Common.{true, ◌-◌, ◌^◌, arith}
use Rattle.bitset.proofs.Laws.Sets.{alike, fit_like, ones}
use Rattle.bitset.proofs.set.BitSet.full.Goals as goal

pub returns : goal.returns
returns g c = alike g.row.W (2 ^ 64 - 1) true (fit_like g.row.W (2 ^ 64 - 1) c.requires (omega arith)) ones
