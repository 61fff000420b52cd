-- The link does not lead from the slots below the loop's to the slot.
use Rattle.std.proofs.Common.{subst, ◌+◌, ◌≡◌, ℕ, arith}
use Rattle.bitset.specs.Set.{set_slots}
use Rattle.site.specs.Site.{site_of}
use Rattle.site.specs.Ways.{link_number}
use Rattle.site_changes.specs.Change.{column_to}
use Rattle.site_changes.proofs.Laws.Loops.{column_start, column_more}
use Rattle.link_edits.proofs.take_column.Goals as goal

pub loop-t-init : goal.loop-t-init
loop-t-init c = column_start (site_of c.args.site.now) c.args.s (link_number c.args.link)

pub loop-t-preserved : goal.loop-t-preserved
loop-t-preserved c = column_more (site_of c.args.site.now) c.args.s (link_number c.args.link) c.loop-t.t c.loop-t.invariant c.take_link.ensures

pub returns : goal.returns
returns c = absurd (omega arith)

pub returns-2 : goal.returns-2
returns-2 c =
    let M = site_of c.args.site.now in
    let m = link_number c.args.link in
    let last : c.loop-t.t + 1 ≡ set_slots = omega arith in
    subst (λ (n : ℕ). site_of c.take_link.new.site ≡ column_to M m c.args.s n) last (column_more M c.args.s m c.loop-t.t c.loop-t.invariant c.take_link.ensures)
