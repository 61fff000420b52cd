-- A slot of a row, or the byte of a target where it is the slot.
use Rattle.std.proofs.Common.{◌∙◌, ◌+◌, ap, arith, set}
use Rattle.bitset.specs.Set.{removed}
use Rattle.limits.specs.Limits.{slots, general_links}
use Rattle.site_changes.proofs.Laws.Bytes.{row_taken, link_unless}
use Rattle.link_edits.proofs.take_link.Goals as goal

pub returns-in-General : goal.returns-in-General
unfolding slots
returns-in-General c =
    let S = c.args.site.now in
    rw c.in-General.is
    (row_taken S c.told-site c.in-General.m.number c.args.s c.args.t c.in-General.m.within c.ranges.s.fits c.ranges.t.fits
    (c.remove.ensures ∙ ap (removed S) (omega (arith, c.row_at.ensures, c.from.ensures))))

pub returns-in-Functional : goal.returns-in-Functional
unfolding slots
returns-in-Functional c =
    let S = c.args.site.now in
    let at = c.target_at-at.ensures in
    rw c.in-Functional.is
    (link_unless S (general_links + c.in-Functional.f.number) c.args.s c.told-site (omega arith) (omega (arith, c.in-Functional.f.within)) c.ranges.s.fits
    c.args.t (rw at at c.unless.ensures) (ap (λ k. set S k c.unless.result) at))
