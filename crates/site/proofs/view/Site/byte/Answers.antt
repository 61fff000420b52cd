use Rattle.std.proofs.Common.{ap, List, ℕ, get_or}
use Rattle.site.proofs.view.Site.byte.Goals as goal

pub returns : goal.returns
returns c = ap (λ (S : List ℕ). get_or S c.args.at 0) c.self.view_is
