-- A round puts slot s in if the link leads from it into the set.
use Rattle.std.proofs.Common.{arith}
use Rattle.modal.proofs.Laws.Gather.{chosen_none, chosen_in, chosen_out, chosen_done}
use Rattle.modal.proofs.preimage.Goals.{then-leads, else-leads}
use Rattle.modal.proofs.preimage.Goals as goal

pub loop-s-init : goal.loop-s-init
loop-s-init c = chosen_none c.empty-found.ensures

pub loop-s-preserved : goal.loop-s-preserved
loop-s-preserved c =
    elim c.if-leads.branch [
      | then-leads w ↦ chosen_in c.loop-s.invariant c.leads.ensures w.if-leads.true w.from.ensures w.insert.ensures w.found-is
      | else-leads w ↦ chosen_out c.loop-s.invariant c.leads.ensures w.if-leads.false w.found-is
    ]

pub returns-after-leads : goal.returns-after-leads
returns-after-leads c =
    elim c.if-leads.branch [
      | then-leads w ↦ chosen_done (chosen_in c.loop-s.invariant c.leads.ensures w.if-leads.true w.from.ensures w.insert.ensures w.found-is) (omega arith)
      | else-leads w ↦ chosen_done (chosen_out c.loop-s.invariant c.leads.ensures w.if-leads.false w.found-is) (omega arith)
    ]
