use Rattle.std.proofs.Common.{false, arith}
use Rattle.finite.proofs.Laws.Weights.{bit-zero}
use Rattle.bitset.proofs.Laws.Sets.{alike, fit_like}
use Rattle.bitset.proofs.set.BitSet.empty.Goals as goal

pub returns : goal.returns
returns g c = alike g.row.W 0 false (fit_like g.row.W 0 c.requires (omega arith)) (λ k l. bit-zero k)
