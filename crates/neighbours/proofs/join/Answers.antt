-- A link that reaches no slot has no step; else its rows are turned round.
use Rattle.std.proofs.Common.{◌≡◌, refl, Bool, true, false, not, sym, ◌∙◌}
use Rattle.finite.specs.Tests.{any}
use Rattle.finite.proofs.Laws.Bools.{no_true, not_out}
use Rattle.bitset.specs.Set.{set_slots, has}
use Rattle.site.specs.Site.{site_of}
use Rattle.site.specs.Ways.{link_number}
use Rattle.neighbours.proofs.Laws.Steps.{reached_in, nothing_back, some_reached}
use Rattle.neighbours.proofs.join.Goals as goal

pub returns-then-is_empty-clause-against : goal.returns-then-is_empty-clause-against
returns-then-is_empty-clause-against c = let F = c.put_targets-reached.result in
    nothing_back ((site_of c.args.site.now).link (link_number c.args.link)) F c.put_targets-reached.ensures.reached c.args.back.now c.requires
    (no_true (not_out (any set_slots (has F)) (sym c.is_empty.ensures ∙ c.if-is_empty.true)))

pub returns-then-is_empty-clause-used : goal.returns-then-is_empty-clause-used
returns-then-is_empty-clause-used c = let F = c.put_targets-reached.result in
    sym (no_true (not_out (any set_slots (has F)) (sym c.is_empty.ensures ∙ c.if-is_empty.true)))
    ∙ some_reached ((site_of c.args.site.now).link (link_number c.args.link)) F c.put_targets-reached.ensures.reached

pub reverse-requires-clause-reached : goal.reverse-requires-clause-reached
reverse-requires-clause-reached c = reached_in ((site_of c.args.site.now).link (link_number c.args.link)) c.put_targets-reached.result c.put_targets-reached.ensures.reached c.put_targets-reached.new.rows c.put_targets-reached.ensures.rows

pub returns-clause-used : goal.returns-clause-used
returns-clause-used c = let F = c.put_targets-reached.result in
    sym (not_false (any set_slots (has F)) (sym c.is_empty.ensures ∙ c.if-is_empty.false))
    ∙ some_reached ((site_of c.args.site.now).link (link_number c.args.link)) F c.put_targets-reached.ensures.reached
  where
    not_false : (b : Bool) → not b ≡ false → b ≡ true
    not_false true e = refl
    not_false false e = sym e
