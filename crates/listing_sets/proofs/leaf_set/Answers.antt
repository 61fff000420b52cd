-- Each kind of leaf by the law of its set.
use Rattle.std.proofs.Common.{◌≡◌, sym, ◌∙◌, ap, ℕ, ◌≤◌, arith}
use Rattle.condition.specs.Bytes.{node_at}
use Rattle.condition.proofs.Laws.Fits.{node_fits_lem}
use Rattle.condition.proofs.Laws.Limits.{param_lower, limit_label, limit_name, limit_variable}
use Rattle.finite.specs.Tests.{same}
use Rattle.limits.specs.Limits.{label_no, name_no, var_no, slot_no}
use Rattle.listing_memo.proofs.Laws.Memo.{valuation_is}
use Rattle.listing_memo.specs.Memo.{valuation}
use Rattle.listing_sets.proofs.Laws.Nodes.{is_true, is_here, is_label, is_name, is_variable, is_slot}
use Rattle.listing_sets.proofs.Laws.Offsets.{slot_in}
use Rattle.semantics.specs.FixedPoint.{full}
use Rattle.site.specs.Site.{site_of}
use Rattle.listing_sets.proofs.leaf_set.Goals as goal

pub at-requires : goal.at-requires
at-requires c = let e : (node_at c.args.table.now c.args.i).kind ≡ label_no = omega arith in
    let low = param_lower c.args.i (node_at c.args.table.now c.args.i) (node_fits_lem c.args.table.now c.requires.table_value c.args.i c.requires.i_in_bounds) in
    (omega arith, omega (arith, c.param-number.ensures, rw (limit_label e) at low))

pub at-requires-in-3 : goal.at-requires-in-3
at-requires-in-3 c = let e : (node_at c.args.table.now c.args.i).kind ≡ name_no = omega arith in
    let low = param_lower c.args.i (node_at c.args.table.now c.args.i) (node_fits_lem c.args.table.now c.requires.table_value c.args.i c.requires.i_in_bounds) in
    (omega arith, omega (arith, c.param-number.ensures, rw (limit_name e) at low))

pub at-requires-in-4 : goal.at-requires-in-4
at-requires-in-4 c = let e : (node_at c.args.table.now c.args.i).kind ≡ var_no = omega arith in
    let low = param_lower c.args.i (node_at c.args.table.now c.args.i) (node_fits_lem c.args.table.now c.requires.table_value c.args.i c.requires.i_in_bounds) in
    (omega arith, omega (arith, c.param-number.ensures, rw (limit_variable e) at low))

pub returns-in-0 : goal.returns-in-0
unfolding full
returns-in-0 c = λ s h. c.full.ensures s (slot_in h) ∙ sym (is_true c.args.table.now c.requires.table_value c.args.i c.requires.i_in_bounds (site_of c.args.site.now) (valuation c.args.memo.now) s (omega arith))

pub returns-in-1 : goal.returns-in-1
returns-in-1 c = λ s h. c.present_slots.ensures s (slot_in h) ∙ sym (is_here c.args.table.now c.requires.table_value c.args.i c.requires.i_in_bounds (site_of c.args.site.now) (valuation c.args.memo.now) s (omega arith))

pub returns-in-2 : goal.returns-in-2
returns-in-2 c = λ s h. c.labelled.ensures s (slot_in h) ∙ ap (λ (n : ℕ). (site_of c.args.site.now).marked n s) (c.at.ensures ∙ c.param-number.ensures)
    ∙ sym (is_label c.args.table.now c.requires.table_value c.args.i c.requires.i_in_bounds (site_of c.args.site.now) (valuation c.args.memo.now) s (omega arith))

pub returns-in-3 : goal.returns-in-3
returns-in-3 c = λ s h. c.single.ensures s (slot_in h) ∙ ap (same s) (c.from.ensures ∙ c.place.ensures ∙ ap (site_of c.args.site.now).place (c.at-in-3.ensures ∙ c.param-number.ensures))
    ∙ sym (is_name c.args.table.now c.requires.table_value c.args.i c.requires.i_in_bounds (site_of c.args.site.now) (valuation c.args.memo.now) s (omega arith))

pub returns-in-4 : goal.returns-in-4
returns-in-4 c = λ s h. c.variable.ensures s (slot_in h) ∙ sym (valuation_is c.args.memo.now c.at-in-4.result.number c.at-in-4.result.within s)
    ∙ ap (λ (v : ℕ). valuation c.args.memo.now v s) (c.at-in-4.ensures ∙ c.param-number.ensures)
    ∙ sym (is_variable c.args.table.now c.requires.table_value c.args.i c.requires.i_in_bounds (site_of c.args.site.now) (valuation c.args.memo.now) s (omega arith))

pub returns-in_default : goal.returns-in_default
returns-in_default c = λ s h. let past : slot_no ≤ (node_at c.args.table.now c.args.i).kind = omega arith in
    c.single-in_default.ensures s (slot_in h) ∙ ap (same s) (c.from-in_default.ensures ∙ c.param-number.ensures)
    ∙ sym (is_slot c.args.table.now c.requires.table_value c.args.i c.requires.i_in_bounds (site_of c.args.site.now) (valuation c.args.memo.now) s past)
