-- p is the partition after as many rounds as were made.
use Rattle.std.proofs.Common.{◌≡◌, ℕ, List, [], replicate, get_or, sym, ◌∙◌, ap, arith}
use Rattle.std.specs.Cmp.Lexicographic.{same_text}
use Rattle.finite.proofs.Laws.Below.{eq_same, all_in}
use Rattle.bitset.specs.Set.{set_slots}
use Rattle.std.proofs.lemmas.List.{get_or-replicate}
use Rattle.limits.specs.Limits.{every_way}
use Rattle.partition.specs.Rows.{in_row}
use Rattle.partition.specs.Partition.{Refines}
use Rattle.partition.proofs.Laws.Gains.{empty_rows}
use Rattle.site.specs.Site.{site_of}
use Rattle.classes.proofs.Laws.Refined.{refined_still, refined_last}
use Rattle.classes.proofs.refine.Goals as goal

pub of_site-used-requires : goal.of_site-used-requires
of_site-used-requires c = λ w s t h i j. ap (λ (R : List (List ℕ)). in_row R s t) (get_or-replicate every_way w (replicate set_slots c.empty.result) [] h) ∙ empty_rows c.empty.result c.empty.ensures s t i j

pub loop-round-init : goal.loop-round-init
loop-round-init c = (omega arith, c.start-p.ensures)

pub returns-then-eq : goal.returns-then-eq
returns-then-eq c = let p = c.loop-round.p in
    let e : c.round-q.result ≡ p = same_text c.round-q.result p (sym c.if-eq.true ∙ c.eq.ensures) in
    refined_still (site_of c.args.site.now) c.loop-round._round p c.loop-round.invariant.0 c.loop-round.invariant.1 _ c.round-q.result c.of_site-used.ensures.neighbours c.round-q.ensures
    (all_in set_slots _ (λ s _. eq_same (ap (λ (q : List ℕ). get_or q s 0) (sym e))))

pub loop-round-preserved : goal.loop-round-preserved
unfolding Refines
loop-round-preserved c = let M = site_of c.args.site.now in (omega arith, c.round-q.ensures M c.of_site-used.ensures.neighbours c.loop-round._round c.loop-round.invariant.1)

pub returns : goal.returns
returns c = refined_last (site_of c.args.site.now) c.loop-round._round c.loop-round.p c.loop-round.invariant.0 c.loop-round.invariant.1 (omega arith)
