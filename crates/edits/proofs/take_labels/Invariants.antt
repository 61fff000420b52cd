-- The labels below the loop's are not on the slot.
use Rattle.std.proofs.Common.{◌≡◌, ◌≤◌}
use Rattle.limits.specs.Limits.{labels}
use Rattle.site.specs.Site.{site_of}
use Rattle.site_changes.specs.Change.{labels_to}
use Rattle.edits.proofs.take_labels.Given as goal

abbrev pub invariant-loop-p : goal.invariant-loop-p
invariant-loop-p l = (site_of l.site ≡ labels_to (site_of l.initial.site) l.s l.p) × (l.p ≤ labels)
