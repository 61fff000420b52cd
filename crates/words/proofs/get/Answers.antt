use Rattle.words.proofs.Laws.Library.{from_le}
use Rattle.words.proofs.get.Goals as goal

pub returns : goal.returns
returns c = from_le c.args.s.now _ c.args.at _ (λ k. (c.type_inv.s k).fits) c.requires c.in-Some.ensures.cases.same c.from_le_bytes.type_inv c.from_le_bytes.ensures
