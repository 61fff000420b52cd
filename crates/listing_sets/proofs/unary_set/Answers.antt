-- By the kind: the complement, the diamond or the box.
use Rattle.std.proofs.Common.{not, ◌&&◌, ◌||◌, ◌≡◌, sym, ◌∙◌, ap, arith}
use Rattle.bitset.specs.Set.{has}
use Rattle.condition.specs.Bytes.{node_at}
use Rattle.finite.proofs.Laws.Bools.{either}
use Rattle.finite.specs.Tests.{any, all}
use Rattle.limits.specs.Limits.{slots, box_no}
use Rattle.listing_sets.proofs.Laws.Nodes.{makes-not, makes_diamond, makes-box}
use Rattle.listing_sets.proofs.Laws.Offsets.{slot_in}
use Rattle.semantics.specs.Form.{Way}
use Rattle.semantics.specs.Holds.{step}
use Rattle.semantics.specs.Table.{way_of}
use Rattle.site.specs.Site.{site_of}
use Rattle.listing_sets.proofs.unary_set.Goals as goal

pub returns-in-5 : goal.returns-in-5
returns-in-5 c = λ s h. c.not.ensures s (slot_in h) ∙ sym (makes-not (site_of c.args.site.now) (node_at c.args.table.now c.args.i) (has c.args.set) (has c.args.set) s (omega arith))

pub returns-in-8 : goal.returns-in-8
returns-in-8 c = let M = site_of c.args.site.now in
    λ s h. c.diamond.ensures s (slot_in h)
    ∙ ap (λ (w : Way). any slots (λ t. step M w s t && has c.args.set t)) (c.from.ensures ∙ ap way_of c.param-number.ensures)
    ∙ sym (makes_diamond M (node_at c.args.table.now c.args.i) (has c.args.set) (has c.args.set) s (omega arith))

pub returns-in_default : goal.returns-in_default
returns-in_default c = let M = site_of c.args.site.now in
    let e : (node_at c.args.table.now c.args.i).kind ≡ box_no =
    either c.requires.fact (λ p. absurd (omega arith)) (λ q. either q (λ p. absurd (omega arith)) (λ p. p)) in
    λ s h. c.boxed.ensures s (slot_in h)
    ∙ ap (λ (w : Way). all slots (λ t. not (step M w s t) || has c.args.set t)) (c.from-in_default.ensures ∙ ap way_of c.param-number.ensures)
    ∙ sym (makes-box M (node_at c.args.table.now c.args.i) (has c.args.set) (has c.args.set) s e)
