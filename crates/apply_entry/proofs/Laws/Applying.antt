-- The answers of applying, case by case.
use Rattle.std.specs.Prelude.{◌≡◌, refl, List, ◌≢◌, ℕ, length, replicate, Err}
use Rattle.std.proofs.Common.{◌∙◌, ap, sym}
use Rattle.finite.specs.Bytes.{Bytes}
use Rattle.verdict.specs.Verdict.{Verdict, Accepted, ◌then◌}
use Rattle.verdict.specs.declared.Refusal.{Refusal}
use Rattle.verdict.specs.declared.Refusal.TheVariants.{BufferLength}
use Rattle.verdict.proofs.Laws.{then_assoc}
use Rattle.site.specs.Layout.{site_bytes}
use Rattle.site.specs.Site.{site_of}
use Rattle.site.specs.Refusal.{site_verdict}
use Rattle.site.proofs.Laws.Same.{same_site}
use Rattle.editions.specs.Edition.{edition_verdict}
use Rattle.sheet.specs.Bytes.{edits_of}
use Rattle.sheet.specs.Refusal.{sheet_verdict}
use Rattle.applying.specs.Refusal.{goes_verdict}
use Rattle.applying.specs.Applies.{Applies}
use Rattle.applying.proofs.Laws.Goes.{goes_out, goes-not}
use Rattle.refusals.specs.Refusal.{buffer_verdict}
use Rattle.refusals.proofs.Laws.Items.{buffer_in, buffer_out, buffer_not, then_out}
use Rattle.apply_entry.specs.Refusal.{apply_verdict}
use Rattle.apply_entry.specs.Applying.{SiteWritten, SiteAfter}
use Rattle.apply_entry.specs.Answered.{ApplyAnswered}

-- ---- applying answers

-- the sheet went through
pub site_written : {edition : ℕ} {site sheet result' : List ℕ} {r : Verdict} → Applies edition site sheet result' r → r ≡ Accepted → Bytes result'
    → SiteWritten edition site sheet result'
site_written {edition} {site} {sheet} a e b =
    record { size = a.long; bytes = b; effects = a.left (goes_out (edits_of edition sheet) (site_of site) (sym a.answer ∙ e)) }

module _ {edition : ℕ} {site sheet result result' : List ℕ} {r : Verdict} (j : r ≡ apply_verdict edition (length result) site sheet) where
  pub answered_applied : r ≡ Accepted → (r ≡ Accepted → SiteWritten edition site sheet result') → ApplyAnswered edition site sheet result result' r
  unfolding SiteAfter
  answered_applied e w = record { verdict = j; left = rw e (w e) }

  pub answered_refused : {q : Refusal} → r ≡ Err q → result' ≡ replicate (length result) 0 → ApplyAnswered edition site sheet result result' r
  unfolding SiteAfter
  answered_refused e z = record { verdict = j; left = rw e z }

-- ---- no byte of the site after is left free

pub site_fixed : (edition : ℕ) (site sheet result R S : List ℕ) → SiteAfter edition Accepted site sheet result R → SiteAfter edition Accepted site sheet result S
    → R ≡ S
unfolding SiteAfter
site_fixed edition site sheet result R S p q = same_site R S p.bytes q.bytes (p.effects ∙ sym q.effects) p.size q.size
