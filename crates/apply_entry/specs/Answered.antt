-- What the inner function of applying promises: its verdict, and what it leaves. The buffer is named twice: as it was, and as it is at return (').
use Rattle.std.specs.Prelude.{◌≡◌, List, ℕ, length}
use Rattle.verdict.specs.Verdict.{Verdict}
use Rattle.apply_entry.specs.Refusal.{apply_verdict}
use Rattle.apply_entry.specs.Applying.{SiteAfter}

-- applying answers the verdict v
pub record ApplyAnswered (edition : ℕ) (site sheet result result' : List ℕ) (v : Verdict) : Type 0 where
  pub verdict : v ≡ apply_verdict edition (length result) site sheet
  pub left : SiteAfter edition v site sheet result result'
