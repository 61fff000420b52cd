-- R through k edits that take link 4 from name 1 to name 2 away: each doubles its diamond, so that the table has 5 + 8 (2 ^ k - 1) nodes,
-- and from the ninth on item 14 is met. This is said of what rewriting returns, in either edition and whatever was in its buffer.
use Rattle.std.specs.Prelude.{◌≡◌, List, ℕ, ◌+◌, ◌-◌, ◌*◌, ◌^◌, ◌≤◌, replicate}
use Rattle.semantics.specs.Edit.{DT1}
use Rattle.samples.specs.Rows.{table_r}
use Rattle.condition.specs.Bytes as condition
use Rattle.sheet.specs.Bytes as sheet
use Rattle.demands.specs.Demands.{RewriteCall}
use Rattle.sample_bytes.specs.Refused.{NotRewritten}

-- k times DT1 4 1 2
abbrev pub cuts : ℕ → List ℕ
cuts k = sheet.bytes_of (replicate k (DT1 4 1 2))

pub record Doubles (edition : ℕ) : Type 0 where
  pub fits : (k : ℕ) → k ≤ 8 → (call : RewriteCall edition (condition.bytes_of table_r) (cuts k)) → (call.reason ≡ 0) × (call.nodes ≡ 5 + 8 * (2 ^ k - 1))
  pub eight : (call : RewriteCall edition (condition.bytes_of table_r) (cuts 8)) → (call.reason ≡ 0) × (call.nodes ≡ 2045)
  pub too_long : (k : ℕ) → 9 ≤ k → k ≤ 64 → (call : RewriteCall edition (condition.bytes_of table_r) (cuts k))
      → NotRewritten call 14 0
