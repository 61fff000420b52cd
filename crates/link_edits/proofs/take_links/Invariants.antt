-- The links below the loop's do not touch the slot.
use Rattle.std.proofs.Common.{◌≡◌, ◌≤◌}
use Rattle.limits.specs.Limits.{links}
use Rattle.site.specs.Site.{site_of}
use Rattle.site_changes.specs.Change.{links_to}
use Rattle.link_edits.proofs.take_links.Given as goal

abbrev pub invariant-loop-m : goal.invariant-loop-m
invariant-loop-m l = (site_of l.site ≡ links_to (site_of l.initial.site) l.s l.m) × (l.m ≤ links)
