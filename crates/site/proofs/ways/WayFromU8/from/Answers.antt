use Rattle.std.proofs.Common.{◌<◌, ◌∙◌, sym, ap, arith, refl, true≢false, ◌-◌}
use Rattle.limits.specs.Limits.{links, every_way}
use Rattle.semantics.specs.Table.{way_of}
use Rattle.finite.proofs.Laws.Below.{below_in, below-not}
use Rattle.semantics.specs.Form.{along, against}
use Rattle.site.proofs.ways.WayFromU8.from.Goals as goal

pub returns-in-Some : goal.returns-in-Some
unfolding way_of
returns-in-Some c =
    let small : c.args.number < links = c.in-Some.ensures.within.0 refl in
    ap along c.in-Some.ensures.some ∙ rw (below_in c.args.number links small) refl

pub returns-in-Some-new : goal.returns-in-Some-new
unfolding way_of
returns-in-Some-new c =
    let large : ¬ (c.args.number < links) = λ l. true≢false (sym (c.in_default.ensures.within.1 l)) in
    let small : c.args.number - links < links = c.in-Some-new.ensures.within.0 refl in
    ap against c.in-Some-new.ensures.some
    ∙ rw (below-not c.args.number links (omega (arith, large)), below_in c.args.number every_way (omega (arith, large, small))) refl

pub returns-in-None : goal.returns-in-None
unfolding way_of
returns-in-None c =
    let large : ¬ (c.args.number < links) = λ l. true≢false (sym (c.in_default.ensures.within.1 l)) in
    let larger : ¬ (c.args.number - links < links) = λ l. true≢false (sym (c.in-None.ensures.within.1 l)) in
    rw (below-not c.args.number links (omega (arith, large)), below-not c.args.number every_way (omega (arith, large, larger))) refl
