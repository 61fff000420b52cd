-- The node is put in.
use Rattle.std.proofs.Common.{◌<◌, length, arith}
use Rattle.listing_memo.proofs.Laws.Memo.{kept}
use Rattle.listing_memo.proofs.memo.Memo.keep.Goals as goal

pub returns : goal.returns
returns c =
    let l : c.args.j < length c.args.self.now.rounds = omega arith in
    kept c.args.self.now l c.insert.ensures
