-- A slot of a row, or the byte of a target.
use Rattle.std.proofs.Common.{◌∙◌, ◌+◌, ap, arith, set}
use Rattle.bitset.specs.Set.{inserted}
use Rattle.limits.specs.Limits.{slots, general_links}
use Rattle.site_changes.proofs.Laws.Bytes.{row_put, link_put}
use Rattle.link_edits.proofs.put_link.Goals as goal

pub returns-in-General : goal.returns-in-General
unfolding slots
returns-in-General c =
    let S = c.args.site.now in
    rw c.in-General.is
    (row_put S c.told-site c.in-General.m.number c.args.s c.args.t c.in-General.m.within c.ranges.s.fits c.ranges.t.fits
    (c.insert.ensures ∙ ap (inserted S) (omega (arith, c.row_at.ensures, c.from.ensures))))

pub returns-in-Functional : goal.returns-in-Functional
unfolding slots
returns-in-Functional c =
    let S = c.args.site.now in
    rw c.in-Functional.is
    (link_put S (general_links + c.in-Functional.f.number) c.args.s c.told-site (omega arith) (omega (arith, c.in-Functional.f.within)) c.ranges.s.fits
    c.args.t c.ranges.t.fits (c.fits-site _) (rw c.in-Functional.is at c.requires) (ap (λ k. set S k c.args.t) c.target_at.ensures))
