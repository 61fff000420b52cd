-- The answers, case by case.
use Rattle.std.specs.Prelude.{◌≡◌, refl, List, ◌++◌, ℕ, length, take, drop, replicate, IfOk, Result, Ok, Err}
use Rattle.std.proofs.Common.{◌∙◌, subst, arith}
use Rattle.verdict.specs.Verdict.{outcome}
use Rattle.verdict.specs.declared.Refusal.{Refusal}
use Rattle.semantics.specs.Holds.{Model}
use Rattle.site.specs.Site.{site_of}
use Rattle.classes.specs.Classes.{Classes, different}
use Rattle.classes_entry.specs.Refusal.{classes_bytes, classes_verdict}
use Rattle.classes_entry.specs.Answer.{count_of}
use Rattle.classes_entry.specs.Classing.{ClassesAfter}
use Rattle.classes_entry.specs.Answered.{ClassesAnswered}

-- ---- the answers

module _ {site classes classes' : List ℕ} {r : Result ℕ Refusal} (j : outcome r ≡ classes_verdict (length classes) site) where
  pub answered_numbered : {n : ℕ} → r ≡ Ok n → IfOk r (λ n. Classes (site_of site) classes' × (n ≡ different classes'))
      → ClassesAnswered site classes classes' (outcome r) (count_of r)
  unfolding ClassesAfter
  answered_numbered e k = record { verdict = j; left = rw e (rw e at k) }

  pub answered_refused : {q : Refusal} → r ≡ Err q → classes' ≡ replicate (length classes) 0 → ClassesAnswered site classes classes' (outcome r) (count_of r)
  unfolding ClassesAfter
  answered_refused e z = record { verdict = j; left = rw e (z, refl) }
