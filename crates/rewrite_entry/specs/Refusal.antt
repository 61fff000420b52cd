-- Which inputs rewriting and the condition for going through refuse: the items of docs/SPEC.md, "Reasons", in their order.
use Rattle.std.specs.Prelude.{List, ℕ}
use Rattle.verdict.specs.Verdict.{Verdict, ◌then◌}
use Rattle.through.specs.Through.{through_edit, one_true}
use Rattle.condition.specs.Bytes.{table_of}
use Rattle.condition.specs.Refusal.{condition_verdict}
use Rattle.editions.specs.Edition.{edition_verdict}
use Rattle.sheet.specs.Bytes.{edits_of}
use Rattle.sheet.specs.Refusal.{sheet_verdict}
use Rattle.limits.specs.Limits.{table_bytes}
use Rattle.semantics.specs.Block.{rewrite_table}
use Rattle.rewriting.specs.Refusal.{length_verdict}
use Rattle.refusals.specs.Refusal.{buffer_verdict}

-- rewriting: 1, then 18, then 7 to 10, then 11 and 12, then 14
unfoldable pub rewrite_verdict : (edition result_len : ℕ) (table sheet : List ℕ) → Verdict
rewrite_verdict edition result_len table sheet =
    buffer_verdict result_len table_bytes then edition_verdict edition then condition_verdict table then sheet_verdict sheet
    then length_verdict rewrite_table (edits_of edition sheet) (table_of table)

-- the condition for going through: 1, then 18, then 11 and 12, then 14
unfoldable pub through_verdict : (edition result_len : ℕ) (sheet : List ℕ) → Verdict
through_verdict edition result_len sheet =
    buffer_verdict result_len table_bytes then edition_verdict edition then sheet_verdict sheet then length_verdict through_edit (edits_of edition sheet) one_true
