-- What rewriting and the condition for going through know of inputs that they do not refuse.
use Rattle.std.specs.Prelude.{◌≡◌, false, List, ℕ}
use Rattle.verdict.specs.Verdict.{Accepted}
use Rattle.through.specs.Through.{through_edit, one_true}
use Rattle.condition.specs.Bytes.{table_of}
use Rattle.condition.specs.Refusal.{condition_verdict}
use Rattle.editions.specs.Edition.{edition_verdict}
use Rattle.sheet.specs.Bytes.{edits_of}
use Rattle.sheet.specs.Refusal.{sheet_verdict}
use Rattle.limits.specs.Limits.{table_bytes}
use Rattle.semantics.specs.Block.{rewrite_table}
use Rattle.rewriting.specs.Refusal.{is_too_long}

pub record Rewritable (edition result_len : ℕ) (table sheet : List ℕ) : Type 0 where
  pub result_size : result_len ≡ table_bytes
  pub edition_accepted : edition_verdict edition ≡ Accepted
  pub table_accepted : condition_verdict table ≡ Accepted
  pub sheet_accepted : sheet_verdict sheet ≡ Accepted
  pub short : is_too_long rewrite_table (edits_of edition sheet) (table_of table) ≡ false

-- ---- the condition for going through

pub record Throughable (edition result_len : ℕ) (sheet : List ℕ) : Type 0 where
  pub result_size : result_len ≡ table_bytes
  pub edition_accepted : edition_verdict edition ≡ Accepted
  pub sheet_accepted : sheet_verdict sheet ≡ Accepted
  pub short : is_too_long through_edit (edits_of edition sheet) one_true ≡ false
