-- The conditions for going through are those tables, and say of site A what they should: by computing.
use Rattle.std.specs.Prelude.{◌≡◌, refl, map}
use Rattle.finite.specs.Tests.{same, below, any, all}
use Rattle.limits.specs.Limits.{slots}
use Rattle.semantics.specs.Table.{kind_no, kind_of, way_of}
use Rattle.semantics.specs.Edit.{functional, find, target, edit, goes, sheet_goes}
use Rattle.semantics.specs.Block.{change, size, root, emit, block_dia, block_leaf, block, rewrite, rewrite_table, passed}
use Rattle.through.specs.Through.{own, closing, behind, through_edit, through}
use Rattle.samples.specs.Site.{some, each, model, name_at, site_a}
use Rattle.samples.specs.Through.{neither_at_nil, foreseens}

pub tables_made : map (λ r. through r.edits) foreseens ≡ map (λ r. r.table) foreseens
unfolding foreseens neither_at_nil passed through_edit behind closing own functional below same rewrite_table rewrite block block_leaf block_dia change way_of emit root size kind_no kind_of
tables_made = refl

pub foreseen_works : map (λ r. sheet_goes r.edits (model site_a)) foreseens ≡ map (λ r. r.works) foreseens
unfolding foreseens sheet_goes goes edit functional find target some each model name_at site_a same below any all slots
foreseen_works = refl
