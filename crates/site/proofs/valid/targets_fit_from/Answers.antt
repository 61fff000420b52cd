-- Where the 32 are none, they fit. Else the targets below j fit.
use Rattle.std.proofs.Common.{sym, ◌∙◌, ◌+◌, ◌*◌, arith}
use Rattle.bitset.specs.Set.{set_bytes}
use Rattle.limits.specs.Limits.{general_links}
use Rattle.finite.proofs.Laws.Loops.{all_none, all_more, all-not}
use Rattle.site.proofs.Laws.Fits.{none_fit}
use borrow.Author.Tests.{not-true, not-false}
use Rattle.site.proofs.valid.targets_fit_from.Goals as goal

pub returns-then-is_empty : goal.returns-then-is_empty
returns-then-is_empty c =
    sym (none_fit c.args.site.now c.args.onsite.now _ (general_links + c.args.f.number) c.args.k _ (omega (arith, c.index.ensures)) c.set_at.ensures.bytes c.set_at.ensures.set (sym c.is_empty.ensures ∙ c.if-is_empty.true))

pub loop-j-init : goal.loop-j-init
loop-j-init c = (omega arith, all_none _)

pub returns-then-not-target_fits : goal.returns-then-not-target_fits
returns-then-not-target_fits c = let s = set_bytes * c.args.k + c.loop-j.j in
    sym (all-not set_bytes _ c.loop-j.j c.loop-j-test.true (sym c.target_fits.ensures ∙ not-true _ c.if-not-target_fits.true-raw))

pub loop-j-preserved : goal.loop-j-preserved
loop-j-preserved c = let s = set_bytes * c.args.k + c.loop-j.j in
    (omega arith, all_more _ _ c.loop-j.invariant.1 (sym c.target_fits.ensures ∙ not-false _ c.if-not-target_fits.false-raw))
