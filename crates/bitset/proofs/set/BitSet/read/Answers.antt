use Rattle.std.proofs.Common.{arith}
use Rattle.bitset.proofs.Laws.Sets.{read_all, fit_read, small}
use Rattle.bitset.proofs.set.BitSet.read.Goals as goal

pub invariant_of-result : goal.invariant_of-result
invariant_of-result g c = fit_read g.row.W _ c.args.part.now c.requires.small (λ k. (c.type_inv.part k).fits) c.loop-k.invariant.0 (λ k l. c.loop-k.invariant.1 k (omega arith))

pub returns-clause-bytes : goal.returns-clause-bytes
returns-clause-bytes g c = read_all g.row.W _ c.args.part.now c.loop-k.invariant.0 c.requires.len (λ k. (c.type_inv.part k).fits) (λ k l. c.loop-k.invariant.1 k (omega arith))

pub returns-clause-small : goal.returns-clause-small
returns-clause-small g c = small _
