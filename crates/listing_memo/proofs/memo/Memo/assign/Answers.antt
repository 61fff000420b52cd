-- The set is stored, and the nodes are taken out.
use Rattle.std.proofs.Common.{not, ◌&&◌, ◌≡◌, ◌∙◌, ap, [], ◌<◌, length, arith}
use Rattle.std.proofs.lemmas.List.{get_or_default}
use Rattle.limits.specs.Limits.{variables}
use Rattle.bitset.specs.Set.{has}
use Rattle.listing_memo.proofs.Laws.Memo.{assigned}
use Rattle.listing_memo.proofs.memo.Memo.assign.Goals as goal

pub returns : goal.returns
returns c =
    let m = c.args.self.now in
    let l : length m.variables ≡ variables = omega arith in
    let f : length m.free_in ≡ variables = omega arith in
    let few : c.index-at.result < length m.free_in = omega (arith, c.index-at.ensures, c.args.x.within) in
    rw (← c.index-at.ensures) (assigned m c.args.set (omega (arith, few)) l
    (λ k h. c.sub-self.ensures k h ∙ ap (λ B. has m.known k && not (has B k)) (get_or_default m.free_in c.index-at.result _ [] few)))
