-- The test of a row, and that each row of the table passes it: the checker computes it over all slots, for any valuation.
use Rattle.std.specs.Prelude.{◌≡◌, refl, List, [], ◌∷◌, Bool, true, not, ◌&&◌, ℕ, length, get_or, take}
use Rattle.finite.specs.Tests.{same, below, any, all, count, first}
use Rattle.limits.specs.Limits.{slots}
use Rattle.semantics.specs.Form.{Form, occ, free, closed, even}
use Rattle.semantics.specs.Holds.{Env, Model, put, step}
use Rattle.semantics.specs.Table.{Node, kind_no, kind_of, way_no, way_of, atom, one, two, build, tree, trees, tree_at, form_of, leaf_fits, unary_fits, kind_fits, node_fits, nodes_fit, even_table}
use Rattle.semantics.specs.Edit.{Edit, DS, functional, find, target, edit, legal, goes, sheet, sheet_legal, sheet_goes}
use Rattle.semantics.specs.Block.{change, size, root, emit, block_dia, block_box, block_leaf, block, rewrite, rewrite_table, passed, rewrite_sheet}
use Rattle.semantics.specs.FixedPoint.{none, full}
use Rattle.rounds.specs.Count.{rounds_by, equal_sets, loop}
use Rattle.samples.specs.Site.{some, each, model, name_at, site_a, ring, stranded, names_together, crowded}
use Rattle.samples.specs.Rows.{Slots, has, Expected, lists, stuck_at, odd_at, Row, table_r, table_name, table_reverse, table_loop, table_label, table_some, rows}
use Rattle.samples.specs.Said.{before, after, rewritten}
use Rattle.samples.proofs.Laws.Site.{on_site, agree, slots_are_present, names_here, link_here, valid_small}
use Rattle.samples.proofs.Laws.Quick.{span, always, at, not_of, or_of, and_of, reach, any_next, all_next, dia_of, box_of, iter_at, quick, quick_rounds, few_slots}

unfoldable pub lists_set : Model → Env → Form → Slots → Bool
lists_set M ρ φ S = equal_sets (quick M ρ φ) (has S)

-- the rewritten table lists the set today; for the empty sheet that is the set after it, which is computed already
unfoldable pub today_test : Model → Env → List Edit → List Node → Slots → Bool
today_test M ρ [] xs S = true
today_test M ρ (e ∷ es) xs S = lists_set M ρ (form_of (rewrite_sheet (e ∷ es) xs)) S

unfoldable pub sound_test : Row → Bool
sound_test r =
    (valid_small r.site && sheet_legal r.edits)
    && (below 0 (length r.table) && (nodes_fit 0 r.table && closed (form_of r.table)))

unfoldable pub through_test : Row → Bool
through_test r =
    (sheet_goes r.edits (before r) && even_table r.table) && (few_slots (before r) && few_slots (after r))

unfoldable pub sets_test : Env → Row → Slots → Bool
sets_test ρ r S = lists_set (after r) ρ (form_of r.table) S && today_test (before r) ρ r.edits r.table S

unfoldable pub counts_test : Row → Slots → ℕ → ℕ → Bool
counts_test r S c k = same (count slots (has S)) c && same (length (rewritten r)) k

-- the rounds that the two lists make
unfoldable pub rounds_test : Env → Row → ℕ → ℕ → Bool
rounds_test ρ r a t = same (quick_rounds (after r) ρ (form_of r.table)) a && same (quick_rounds (before r) ρ (form_of (rewritten r))) t

unfoldable pub stuck_test : Row → ℕ → Bool
stuck_test r w =
    sheet_goes (take w r.edits) (before r) && not (goes (get_or r.edits w (DS 0)) (sheet (take w r.edits) (before r)))

unfoldable pub passes : Env → Row → Expected → Bool
passes ρ r (lists S c k a t) = through_test r && (sets_test ρ r S && (counts_test r S c k && rounds_test ρ r a t))
passes ρ r (stuck_at w) = below w (length r.edits) && stuck_test r w
passes ρ r (odd_at w) =
    below w (length r.table) && same (first (length r.table) (λ i. not (even (tree_at r.table i)))) w

unfoldable pub row_passes : Env → Row → Bool
row_passes ρ r = sound_test r && passes ρ r r.expected

pub rows_pass : (ρ : Env) → each (row_passes ρ) rows ≡ true
unfolding row_passes passes sound_test through_test sets_test counts_test stuck_test equal_sets lists_set valid_small slots_are_present names_here link_here on_site agree some each model name_at site_a ring stranded names_together crowded has rows table_r table_name table_reverse table_loop table_label table_some quick always at not_of or_of and_of reach any_next all_next dia_of box_of span iter_at today_test rounds_by rounds_test loop few_slots none full put step same below any all count first slots sheet sheet_legal sheet_goes legal goes edit functional find target kind_no kind_of way_no way_of atom one two build tree trees tree_at form_of leaf_fits unary_fits kind_fits node_fits nodes_fit even_table even occ free closed change size root emit block_dia block_box block_leaf block rewrite rewrite_table passed
rows_pass ρ = refl
