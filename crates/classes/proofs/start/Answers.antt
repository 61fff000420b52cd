-- One class, split by the features.
use Rattle.bitset.specs.Set.{set_slots}
use Rattle.site.specs.Site.{site_of}
use Rattle.classes.proofs.Laws.Features.{zeros_partition, features_partition}
use Rattle.classes.proofs.start.Goals as goal

pub by_rows-requires : goal.by_rows-requires
by_rows-requires c = zeros_partition set_slots

pub returns : goal.returns
returns c = features_partition set_slots (site_of c.args.site.now) c.features_of.result _ c.features_of.ensures c.by_rows.ensures
