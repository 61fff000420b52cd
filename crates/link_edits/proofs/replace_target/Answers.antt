-- RT is a target set, whatever it was.
use Rattle.std.proofs.Common.{◌∙◌, ◌≡◌, List, ℕ, sym, ap, ap₂, arith, set}
use Rattle.limits.specs.Limits.{slots}
use Rattle.going.specs.Joins.{ends_on_site}
use Rattle.going.proofs.Laws.Goes.{goes-RT, end_there}
use Rattle.going.proofs.Laws.Ranges.{legal-RT}
use Rattle.site.specs.Layout.{target_at}
use Rattle.site.specs.Site.{site_of}
use Rattle.site_changes.specs.Change.{with_target}
use Rattle.site_changes.proofs.Laws.Bytes.{target-set}
use Rattle.site_changes.proofs.Laws.Rows.{edit-RT}
use Rattle.link_edits.proofs.replace_target.Goals as goal

pub returns : goal.returns
unfolding slots
returns c =
    let S = c.args.site.now in
    let M = site_of S in
    let f = c.args.f in
    let s = c.place-s.result in
    let t = c.place-t.result in
    let r = legal-RT f c.args.n1 c.args.n2 c.requires.legal in
    let from : s ≡ M.place c.args.n1 = c.place-s.ensures ∙ ap₂ (λ (T : List ℕ) (n : ℕ). (site_of T).place n) c.from-before.ensures c.at.ensures in
    let to : t ≡ M.place c.args.n2 = c.place-t.ensures ∙ ap₂ (λ (T : List ℕ) (n : ℕ). (site_of T).place n) c.from-before.ensures c.at-2.ensures in
    let there = end_there s t (ap₂ ends_on_site from to ∙ sym (goes-RT M f c.args.n1 c.args.n2) ∙ c.requires.goes) in
    let at : c.target_at.result ≡ target_at f s = omega (arith, c.target_at.ensures, c.at-3.ensures, r.0.0) in
    target-set S f s c.told-site r.0.0 r.0.1 c.place-s.type_inv t there c.place-t.type_inv (ap (λ k. set S k t) at)
    ∙ ap₂ (with_target M f) from to
    ∙ sym (edit-RT M f c.args.n1 c.args.n2)
