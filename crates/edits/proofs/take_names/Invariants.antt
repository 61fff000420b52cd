-- The names below the loop's are not at the slot.
use Rattle.std.proofs.Common.{◌≡◌, ◌≤◌}
use Rattle.limits.specs.Limits.{names}
use Rattle.site.specs.Site.{site_of}
use Rattle.site_changes.specs.Change.{names_to}
use Rattle.edits.proofs.take_names.Given as goal

abbrev pub invariant-loop-n : goal.invariant-loop-n
invariant-loop-n l = (site_of l.site ≡ names_to (site_of l.initial.site) l.s l.n) × (l.n ≤ names)
