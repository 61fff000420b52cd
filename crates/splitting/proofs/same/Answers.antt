-- No slot is in one of them alone.
use Rattle.std.proofs.Common.{◌∙◌}
use Rattle.splitting.proofs.Laws.Alike.{none_apart}
use Rattle.splitting.proofs.same.Goals as goal

pub returns : goal.returns
returns c = c.is_empty.ensures ∙ none_apart c.args.a c.args.b _ _ _ c.sub.ensures c.sub-2.ensures c.bitor-apart.ensures
