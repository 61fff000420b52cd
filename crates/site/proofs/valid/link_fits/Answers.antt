-- A general link by its rows, a functional one by its targets.
use Rattle.std.proofs.Common.{◌∙◌, ◌+◌, arith}
use Rattle.limits.specs.Limits.{slots, general_links}
use Rattle.site.specs.Layout.{target_at}
use Rattle.site.proofs.Laws.Fits.{link_rows, link_targets}
use Rattle.site.proofs.valid.link_fits.Goals as goal

pub returns-in-General : goal.returns-in-General
returns-in-General c = rw c.in-General.is (c.rows_fit.ensures ∙ link_rows _ _ c.in-General.m.number c.in-General.m.within c.requires.onsite)

pub returns-in-Functional : goal.returns-in-Functional
unfolding slots
returns-in-Functional c =
    rw c.in-Functional.is
    (c.targets_fit.ensures ∙ link_targets _ _ (general_links + c.in-Functional.f.number) (omega arith) (omega (arith, c.in-Functional.f.within)) (λ s. c.requires.bytes (target_at (general_links + c.in-Functional.f.number) s)) c.requires.onsite)
