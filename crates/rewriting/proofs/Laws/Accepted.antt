-- The tables that rewriting and the condition for going through give are accepted: items 7 to 10 are not met by them, unless item 14 is met.
use Rattle.std.specs.Prelude.{◌≡◌, true, false, List, ◌++◌, ℕ, ◌*◌, ◌≤◌, ◌<◌, length, take}
use Rattle.std.proofs.Common.{sym, ◌∙◌, ap, arith, take_at}
use Rattle.finite.proofs.Laws.Below.{not-below}
use Rattle.verdict.specs.Verdict.{Accepted}
use Rattle.semantics.specs.Table.{Node}
use Rattle.semantics.specs.Edit.{Edit, sheet_legal}
use Rattle.semantics.specs.Block.{rewrite_table, rewrite_sheet}
use Rattle.semantics.proofs.Laws.Rewrite.{sheet_fits, sheet-some, sheet-even, sheet-closed}
use Rattle.through.specs.Through.{through}
use Rattle.through.proofs.Laws.Through.{through-some, through_fits, through-even, through-closed}
use Rattle.condition.specs.Bytes.{table_of, bytes_of}
use Rattle.condition.specs.Refusal.{condition_verdict}
use Rattle.condition.proofs.Laws.Bytes.{length_table, length-bytes, table_back_lem}
use Rattle.condition.proofs.Laws.Verdict.{accepted_sound, bytes_accepted}
use Rattle.sheet.specs.Bytes.{edits_of}
use Rattle.sheet.specs.Refusal.{sheet_verdict}
use Rattle.sheet.proofs.Laws.Accepted.{accepted_sheet}
use Rattle.limits.specs.Limits.{table_nodes}
use Rattle.rewriting.specs.Refusal.{is_too_long}
use Rattle.rewriting.proofs.Laws.Grow.{table_grows, too_long_end}

-- the first n nodes of a buffer that starts with a table of n nodes
module _ (ys : List Node) (zs o : List ℕ) (n : ℕ) (e : n ≡ length ys) (f : o ≡ bytes_of ys ++ zs) where
  pub taken : take (6 * n) o ≡ bytes_of ys
  taken = ap (take (6 * n)) f ∙ take_at (bytes_of ys) zs (6 * n) (omega (arith, length-bytes ys))

  pub taken_table : table_of (take (6 * n) o) ≡ ys
  taken_table = ap table_of taken ∙ table_back_lem ys

-- the condition for going through
pub through_bytes_accepted : (es : List Edit) → sheet_legal es ≡ true → length (through es) ≤ table_nodes → condition_verdict (bytes_of (through es)) ≡ Accepted
through_bytes_accepted es l h = bytes_accepted (through es) (through-some es l) h (through_fits es l) (through-even es l) (through-closed es l)

-- a rewritten table
module _ (es : List Edit) (l : sheet_legal es ≡ true) (table : List ℕ) (a : condition_verdict table ≡ Accepted)
    (short : is_too_long rewrite_table es (table_of table) ≡ false) where
  abbrev ys : List Node
  ys = rewrite_sheet es (table_of table)

  pub few_nodes : length ys ≤ table_nodes
  few_nodes =
      let s = accepted_sound table a in
      not-below table_nodes (length ys)
      (sym (too_long_end rewrite_table table_grows es (table_of table) (omega (arith, s.few, length_table table))) ∙ short)

  pub image_accepted : condition_verdict (bytes_of ys) ≡ Accepted
  image_accepted =
      let s = accepted_sound table a in
      let xs = table_of table in
      let some : 0 < length xs = omega (arith, s.some, length_table table) in
      bytes_accepted ys (sheet-some es l xs s.fits some) few_nodes (sheet_fits es l xs s.fits) (sheet-even es l xs s.fits s.even_rule)
      (sheet-closed es l xs s.fits some s.is_closed)

-- the same of an accepted sheet's bytes, and of the first n nodes of the buffer that rewriting leaves
pub rewritten_accepted : (edition : ℕ) (table sheet : List ℕ) → condition_verdict table ≡ Accepted → sheet_verdict sheet ≡ Accepted
    → is_too_long rewrite_table (edits_of edition sheet) (table_of table) ≡ false
    → (zs o : List ℕ) (n : ℕ) → n ≡ length (rewrite_sheet (edits_of edition sheet) (table_of table)) → o ≡ bytes_of (rewrite_sheet (edits_of edition sheet) (table_of table)) ++ zs
    → condition_verdict (take (6 * n) o) ≡ Accepted
rewritten_accepted edition table sheet a b short zs o n e f =
    rw (taken (rewrite_sheet (edits_of edition sheet) (table_of table)) zs o n e f)
    (image_accepted (edits_of edition sheet) (accepted_sheet edition sheet b).are_legal table a short)
