-- The link does not lead from the slots below the loop's to the slot.
use Rattle.std.proofs.Common.{◌≡◌}
use Rattle.site.specs.Site.{site_of}
use Rattle.site.specs.Ways.{link_number}
use Rattle.site_changes.specs.Change.{column_to}
use Rattle.link_edits.proofs.take_column.Given as goal

abbrev pub invariant-loop-t : goal.invariant-loop-t
invariant-loop-t l = site_of l.site ≡ column_to (site_of l.initial.site) (link_number l.link) l.s l.t
