-- What numbering the classes leaves in its buffer after a verdict, and its count. The buffer is named twice: as it was, and as it is at return (').
use Rattle.std.specs.Prelude.{◌≡◌, List, ℕ, length, replicate, Ok, Err}
use Rattle.verdict.specs.Verdict.{Verdict}
use Rattle.site.specs.Site.{site_of}
use Rattle.classes.specs.Classes.{Classes, different}

-- the numbers and their count after a verdict: the class number of each slot of the site; zeros where an input is refused
unfoldable pub ClassesAfter : Verdict → (site classes classes' : List ℕ) (n : ℕ) → Type 0
ClassesAfter (Ok _) site classes classes' n = Classes (site_of site) classes' × (n ≡ different classes')
ClassesAfter (Err r) site classes classes' n = (classes' ≡ replicate (length classes) 0) × (n ≡ 0)
