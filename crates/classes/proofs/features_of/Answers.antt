-- The labels below p are put in, and then the names below n.
use Rattle.std.proofs.Common.{Bool, ℕ, ◌&&◌, ◌+◌, ◌∙◌, ap, ap₂, arith}
use Rattle.finite.specs.Tests.{same}
use Rattle.limits.specs.Limits.{labels, names}
use Rattle.site.specs.Site.{site_of}
use Rattle.partition.proofs.Laws.Gains.{gains_start, gains_more, gains_done, gains_put, gains_map, gains_join, gains_empty}
use Rattle.classes.specs.Features.{labels_from, names_from}
use Rattle.classes.proofs.Laws.Features.{featured}
use Rattle.classes.proofs.features_of.Goals as goal

pub loop-p-init : goal.loop-p-init
loop-p-init c = gains_start (λ p s t. (site_of c.args.site.now).marked p s && same t (labels_from + p))

pub loop-p-preserved : goal.loop-p-preserved
loop-p-preserved c = gains_more (λ p s t. (site_of c.args.site.now).marked p s && same t (labels_from + p)) c.loop-p.p c.loop-p.invariant
    (gains_map (λ s t i _. ap₂ ◌&&◌ (c.labelled-labelled.ensures s i ∙ ap (λ (k : ℕ). (site_of c.args.site.now).marked k s) c.at.ensures) (ap (λ (k : ℕ). same t (labels_from + k)) c.from.ensures)) c.put-in-loop-p.ensures)

pub loop-n-init : goal.loop-n-init
loop-n-init c = gains_start (λ n s t. same s ((site_of c.args.site.now).place n) && same t (names_from + n))

pub loop-n-preserved : goal.loop-n-preserved
loop-n-preserved c = let M = site_of c.args.site.now in
    gains_more (λ n s t. same s (M.place n) && same t (names_from + n)) c.loop-n.n c.loop-n.invariant
    (gains_map (λ s t _ _. ap₂ ◌&&◌ (ap (same s) (c.from-in-loop-n.ensures ∙ c.place-s.ensures ∙ ap M.place c.at-in-loop-n.ensures)) (ap (λ (k : ℕ). same t (names_from + k)) c.from-in-loop-n-2.ensures))
    (gains_put c.loop-n.rows c.from-in-loop-n.result (names_from + c.from-in-loop-n-2.result) _ _ (omega arith) c.insert.ensures))

pub returns : goal.returns
returns c = let M = site_of c.args.site.now in
    featured M _ (gains_empty c.empty-rows.ensures (gains_join (gains_join
    (gains_map (λ s t i _. ap (λ (x : Bool). x && same t 0) (c.present_slots.ensures s i)) c.put.ensures)
    (gains_done (λ p s t. M.marked p s && same t (labels_from + p)) labels c.loop-p.p c.loop-p.invariant (omega arith) (omega arith)))
    (gains_done (λ n s t. same s (M.place n) && same t (names_from + n)) names c.loop-n.n c.loop-n.invariant (omega arith) (omega arith))))
