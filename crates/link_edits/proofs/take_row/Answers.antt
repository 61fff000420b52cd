-- A row that is lent whole and comes back as zeros, or the byte of a target.
use Rattle.std.proofs.Common.{◌∙◌, ◌+◌, ◌-◌, ◌≤◌, ap, arith, set, length, drop, replicate, length-drop, length-take-le}
use Rattle.limits.specs.Limits.{slots, general_links}
use Rattle.site_changes.proofs.Laws.Bytes.{row_zeroed, target_taken}
use Rattle.link_edits.proofs.take_row.Goals as goal

pub returns-in-General : goal.returns-in-General
unfolding slots
returns-in-General c =
    let S = c.args.site.now in
    let b = c.row_at-at.result in
    let k = b + 32 - b in
    let fits : k ≤ length (drop b S) = omega (arith, c.row_at-at.ensures, length-drop b S, c.told-site, c.in-General.m.within, c.ranges.s.fits) in
    rw c.in-General.is
    (row_zeroed S c.fill.new.self c.in-General.m.number c.args.s b k c.told-site c.in-General.m.within c.ranges.s.fits c.row_at-at.ensures (omega arith)
    (c.fill.ensures.after (λ y e. e) ∙ ap (λ n. replicate n 0) (length-take-le k (drop b S) fits)))

pub returns-in-Functional : goal.returns-in-Functional
unfolding slots
returns-in-Functional c =
    let S = c.args.site.now in
    rw c.in-Functional.is
    (target_taken S (general_links + c.in-Functional.f.number) c.args.s c.told-site (omega arith) (omega (arith, c.in-Functional.f.within)) c.ranges.s.fits
    (ap (λ k. set S k 0) c.target_at.ensures))
