use Rattle.std.proofs.Common.{◌∙◌, arith}
use Rattle.words.proofs.Laws.Library.{put_copied}
use Rattle.words.proofs.put.Goals as goal

pub returns : goal.returns
returns c = put_copied c.args.d.now _ c.args.at _ c.args.w c.requires (omega arith) (c.copy_from_slice.ensures.after ∙ c.to_le_bytes.ensures)
