use Rattle.std.proofs.Common.{◌∙◌, ap, ◌+◌, ◌*◌, ◌<◌, ◌≡◌, List, ℕ, get_or, arith, subst, get_or-take, get_or-drop, drop}
use Rattle.bitset.specs.Set.{has}
use Rattle.bitset.proofs.Laws.Part.{has_part}
use Rattle.site.proofs.view.Site.set_at.Goals as goal

pub returns-clause-set : goal.returns-clause-set
returns-clause-set c = λ s h.
    ap (λ (T : List ℕ). has T s) c.read.ensures.bytes
    ∙ has_part c.self.inside.bytes.now c.args.at _ s (omega arith)
    ∙ ap (λ (S : List ℕ). has S (c.args.at * 8 + s)) c.self.view_is

pub returns-clause-bytes : goal.returns-clause-bytes
returns-clause-bytes c = λ k h.
    let part : get_or c.read.result k 0 ≡ get_or c.self.inside.bytes.now (c.args.at + k) 0
    = ap (λ (T : List ℕ). get_or T k 0) c.read.ensures.bytes ∙ get_or-take _ (drop c.args.at c.self.inside.bytes.now) k 0 (omega arith) ∙ get_or-drop c.args.at c.self.inside.bytes.now k 0 in
    subst (λ (n : ℕ). n < 256) (part ∙ ap (λ (S : List ℕ). get_or S (c.args.at + k) 0) c.self.view_is) (c.read.ensures.small k)
