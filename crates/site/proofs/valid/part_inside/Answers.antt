use Rattle.std.proofs.Common.{◌∙◌, ap, Bool, not, ◌||◌}
use Rattle.finite.proofs.Laws.Below.{all_cong}
use Rattle.bitset.specs.Set.{set_slots, has}
use Rattle.site.proofs.valid.part_inside.Goals as goal

pub returns : goal.returns
returns c = c.is_subset.ensures ∙ all_cong set_slots _ _ (λ t h. ap (λ (b : Bool). not b || has c.args.set.now t) (c.set_at.ensures.set t h))
