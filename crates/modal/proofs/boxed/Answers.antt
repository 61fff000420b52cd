-- The complement of the diamond of the complement.
use Rattle.modal.proofs.Laws.Modal.{box_diamond}
use Rattle.semantics.specs.Holds.{step}
use Rattle.site.specs.Site.{site_of}
use Rattle.site.specs.Ways.{meant}
use Rattle.modal.proofs.boxed.Goals as goal

pub returns : goal.returns
returns c = box_diamond (step (site_of c.args.site.now) (meant c.args.way)) _ _ _ _ c.not-outside.ensures c.diamond.ensures c.not.ensures
