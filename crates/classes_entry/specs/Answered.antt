-- What the inner function of numbering the classes promises: its verdict, and what it leaves. The buffer is named twice: as it was, and as it
-- is at return (').
use Rattle.std.specs.Prelude.{◌≡◌, List, ℕ, length}
use Rattle.verdict.specs.Verdict.{Verdict}
use Rattle.classes_entry.specs.Refusal.{classes_verdict}
use Rattle.classes_entry.specs.Classing.{ClassesAfter}

-- the verdict v and the count n are answered
pub record ClassesAnswered (site classes classes' : List ℕ) (v : Verdict) (n : ℕ) : Type 0 where
  pub verdict : v ≡ classes_verdict (length classes) site
  pub left : ClassesAfter v site classes classes' n
