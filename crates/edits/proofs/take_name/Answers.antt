-- A name's byte, or 0 where it is the slot.
use Rattle.std.proofs.Common.{sym, ◌∙◌, ap, List, ℕ}
use Rattle.site.specs.Site.{site_of}
use Rattle.site_changes.proofs.Laws.Loops.{name_left}
use Rattle.edits.proofs.take_name.Goals as goal

pub returns : goal.returns
returns c =
    name_left (site_of c.args.site.now) c.args.n.number c.args.s
    (sym (c.place-p.ensures ∙ ap (λ (S : List ℕ). (site_of S).place c.args.n.number) c.from.ensures)) c.unless.ensures c.put_name.ensures
