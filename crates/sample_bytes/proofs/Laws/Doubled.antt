-- R through edits that double it. The rewritten table is never computed: its length is a law of rewriting.
use Rattle.std.specs.Prelude.{◌≡◌, refl, List, true, ℕ, zero, suc, ◌+◌, ◌-◌, ◌*◌, ◌^◌, ◌≤◌, length, replicate}
use Rattle.std.proofs.Common.{◌∙◌, arith, pow_pos, ap, pow_mono}
use Rattle.std.proofs.lemmas.List.{length-replicate}
use Rattle.finite.specs.Tests.{same, below, all}
use Rattle.finite.proofs.Laws.Below.{below_in, below-not}
use Rattle.verdict.specs.declared.Refusal.TheVariants.{TableFull}
use Rattle.verdict.specs.Verdict.{Accepted, reason_of}
use Rattle.semantics.specs.Form.{occ, free, closed, even}
use Rattle.semantics.specs.Table.{kind_of, way_of, atom, one, two, build, tree, trees, tree_at, form_of, leaf_fits, unary_fits, kind_fits, node_fits, nodes_fit, even_table}
use Rattle.semantics.specs.Edit.{Edit, DT1, legal, sheet_legal}
use Rattle.semantics.specs.Block.{rewrite_sheet, rewrite_table}
use Rattle.samples.specs.Rows.{table_r}
use Rattle.condition.specs.Bytes as condition
use Rattle.condition.specs.Refusal.{condition_verdict}
use Rattle.condition.proofs.Laws.Bytes.{table_back_lem}
use Rattle.editions.specs.Edition.{edition_verdict}
use Rattle.sheet.specs.Bytes.{in_edition, all_in_edition}
use Rattle.sheet.specs.Refusal.{sheet_verdict}
use Rattle.sheet.proofs.Laws.Read.{edits-back}
use Rattle.sheet.proofs.Laws.Accepted.{sheet_accepted}
use Rattle.limits.specs.Limits.{table_nodes}
use Rattle.rewriting.specs.Refusal.{is_too_long, length_verdict}
use Rattle.rewriting.proofs.Laws.Grow.{table_grows, too_long_end}
use Rattle.rewriting.proofs.Laws.Double.{total, meets, cost, nodes-through}
use Rattle.refusals.proofs.Laws.Items.{buffer_in}
use Rattle.rewrite_entry.specs.Refusal.{rewrite_verdict}
use Rattle.rewriting.specs.Rewriting.{TableAfter}
use Rattle.demands.specs.Demands.{RewriteCall}
use Rattle.sample_bytes.specs.Doubled.{cuts, Doubles}
use Rattle.sample_bytes.specs.Refused.{NotRewritten}
use Rattle.sample_bytes.proofs.Laws.Refused.{not-rewritten}
use Rattle.sample_bytes.proofs.Laws.Judged.{table_accepted}

-- ---- R and its sheet are accepted

five : length table_r ≡ 5
unfolding table_r
five = refl

cost_8 : total (cost 4) table_r ≡ 8
unfolding table_r total cost meets way_of same below
cost_8 = refl

table_ok : condition_verdict (condition.bytes_of table_r) ≡ Accepted
unfolding table_r nodes_fit node_fits kind_fits leaf_fits unary_fits kind_of even_table even occ tree_at trees tree build atom one two way_of form_of closed free all same below
table_ok = table_accepted table_r (omega arith) (omega arith) refl refl refl

abbrev edits : ℕ → List Edit
edits k = replicate k (DT1 4 1 2)

edits-legal : (k : ℕ) → sheet_legal (edits k) ≡ true
unfolding sheet_legal legal below
edits-legal zero = refl
edits-legal (suc k) = edits-legal k

edits_in : (d k : ℕ) → all_in_edition d (edits k) ≡ true
unfolding all_in_edition in_edition
edits_in d zero = refl
edits_in d (suc k) = edits_in d k

sheet_ok : (k : ℕ) → k ≤ 64 → sheet_verdict (cuts k) ≡ Accepted
sheet_ok k h =
    sheet_accepted 1 (cuts k) (edits k)
    (record { bytes = refl; are_legal = edits-legal k; of_edition = edits_in 1 k; few = omega (arith, length-replicate {A = Edit} k (DT1 4 1 2)) })

-- ---- the rewritten table

nodes_are : (k : ℕ) → length (rewrite_sheet (edits k) table_r) ≡ 5 + 8 * (2 ^ k - 1)
nodes_are k = omega (arith, rw (five, cost_8) at (nodes-through 4 1 2 k table_r), pow_pos k)

long_is : (k : ℕ) → is_too_long rewrite_table (edits k) table_r ≡ below table_nodes (5 + 8 * (2 ^ k - 1))
long_is k = too_long_end rewrite_table table_grows (edits k) table_r (omega (arith, five)) ∙ ap (below table_nodes) (nodes_are k)

module _ {edition : ℕ} (known : edition_verdict edition ≡ Accepted) (k : ℕ) (few : k ≤ 64) (call : RewriteCall edition (condition.bytes_of table_r) (cuts k)) where
  verdict_is : rewrite_verdict edition (length call.result) (condition.bytes_of table_r) (cuts k) ≡ length_verdict rewrite_table (edits k) table_r
  unfolding rewrite_verdict
  verdict_is = rw (buffer_in call.result_size, known, table_ok, sheet_ok k few, edits-back edition (edits k) (edits_in edition k), table_back_lem table_r)

  short : k ≤ 8 → (call.reason ≡ 0) × (call.nodes ≡ 5 + 8 * (2 ^ k - 1))
  unfolding length_verdict TableAfter
  short h =
      let p : 2 ^ k ≤ 2 ^ 8 = pow_mono h in
      let v : rewrite_verdict edition (length call.result) (condition.bytes_of table_r) (cuts k) ≡ Accepted =
      rw (verdict_is, long_is k, below-not table_nodes (5 + 8 * (2 ^ k - 1)) (omega arith)) in
      let t = rw v at call.returned.left in
      (call.returned.reason_is ∙ ap reason_of v, t.0 ∙ rw (edits-back edition (edits k) (edits_in edition k), table_back_lem table_r) (nodes_are k))

  long : 9 ≤ k → NotRewritten call 14 0
  unfolding length_verdict
  long h =
      let p : 2 ^ 9 ≤ 2 ^ k = pow_mono h in
      not-rewritten call TableFull (rw (verdict_is, long_is k, below_in table_nodes (5 + 8 * (2 ^ k - 1)) (omega arith)))

pub doubles : (edition : ℕ) → edition_verdict edition ≡ Accepted → Doubles edition
doubles edition known = record {
  fits = λ k h c. short known k (omega arith) c (omega arith);
  eight = λ c. short known 8 (omega arith) c (omega arith);
  too_long = λ k h l c. long known k l c (omega arith);
}
