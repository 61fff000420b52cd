-- By the way, the start, and the present set.
use Rattle.std.proofs.Common.{◌<◌, ◌∙◌, ap, sym, arith}
use Rattle.refusals.proofs.Laws.Items.{start_in_lem, start_not}
use Rattle.chain_entry.proofs.Laws.Chaining.{way_unfit, start_unfit, start_fit}
use Rattle.site.specs.Site.{site_of}
use Rattle.chain_entry.proofs.start_of.Goals as goal

pub returns-then-way-ge-EVERY-clause-verdict : goal.returns-then-way-ge-EVERY-clause-verdict
returns-then-way-ge-EVERY-clause-verdict c =
    sym (start_not (site_of c.args.site.now) c.args.way c.args.start (sym (way_unfit (site_of c.args.site.now) c.args.way c.args.start (omega arith))))

pub returns-in_default-clause-verdict : goal.returns-in_default-clause-verdict
returns-in_default-clause-verdict c =
    let large : ¬ (c.args.start < 256) = c.in_default.ensures in
    sym (start_not (site_of c.args.site.now) c.args.way c.args.start (sym (start_unfit (site_of c.args.site.now) c.args.way c.args.start (omega arith) (omega (arith, large)))))

pub returns-then-not-present-clause-verdict : goal.returns-then-not-present-clause-verdict
returns-then-not-present-clause-verdict c =
    sym (start_not (site_of c.args.site.now) c.args.way c.args.start (sym (start_fit (site_of c.args.site.now) c.args.way c.args.start (omega arith) (omega (arith, c.in-Ok.ensures.0)) (sym c.if-not-present.true ∙ c.present.ensures ∙ ap (site_of c.args.site.now).present c.in-Ok.ensures.1))))

pub returns-clause-verdict : goal.returns-clause-verdict
returns-clause-verdict c =
    sym (start_in_lem (site_of c.args.site.now) c.args.way c.args.start (sym (start_fit (site_of c.args.site.now) c.args.way c.args.start (omega arith) (omega (arith, c.in-Ok.ensures.0)) (sym c.if-not-present.false ∙ c.present.ensures ∙ ap (site_of c.args.site.now).present c.in-Ok.ensures.1))))
