-- One verdict on one input leaves the same bytes and numbers in buffers of the same lengths.
use Rattle.std.specs.Prelude.{◌≡◌, List, ℕ, length, replicate, Err, Ok}
use Rattle.std.proofs.Common.{◌∙◌, arith, ext_get_or, sym, ap}
use Rattle.std.proofs.Math.Logic.Iff
use Rattle.limits.specs.Limits.{slots}
use Rattle.verdict.specs.Verdict.{Verdict, Accepted}
use Rattle.semantics.specs.Holds.{Model}
use Rattle.semantics.specs.Table.{Node, form_of}
use Rattle.semantics.specs.Bisimulation.{IsClass}
use Rattle.site.specs.Site.{site_of}
use Rattle.site.proofs.Laws.Same.{same_site}
use Rattle.condition.specs.Bytes.{table_of}
use Rattle.classes.specs.Classes.{Classes, different}
use Rattle.rewriting.specs.Rewriting.{TableAfter}
use Rattle.listing.specs.declared.Found.{Found}
use Rattle.listing.proofs.Laws.Same.{same_listed}
use Rattle.list_entry.specs.Listing.{SetAfter}
use Rattle.apply_entry.specs.Applying.{SiteAfter}
use Rattle.classes_entry.specs.Classing.{ClassesAfter}
use Rattle.demands.proofs.Laws.Accepted.{same-makes}

-- zeros, at one length
pub same_zeros : {m n : ℕ} {a b : List ℕ} → a ≡ replicate m 0 → b ≡ replicate n 0 → m ≡ n → a ≡ b
same_zeros p q e = p ∙ ap (λ (k : ℕ). replicate k 0) e ∙ sym q

-- a slot has one class number
one_class : {M : Model} {s c d : ℕ} → IsClass M s c → IsClass M s d → c ≡ d
one_class p q = omega (arith, p.low _ q.is_slot q.bisimilar, q.low _ p.is_slot p.bisimilar)

same_numbers : {M : Model} {p q : List ℕ} → Classes M p → Classes M q → p ≡ q
unfolding slots
same_numbers {p = p} {q = q} a b = ext_get_or 0 p q (a.long ∙ sym b.long) (λ s h. one_class (a.each s (omega (arith, a.long, h))) (b.each s (omega (arith, a.long, h))))

-- a buffer was b, or d, and is b', or d'
module _ (b b' d d' : List ℕ) (sizes : length b ≡ length d) where
  pub site_same : (edition : ℕ) (v : Verdict) (site sheet : List ℕ) → SiteAfter edition v site sheet b b' → SiteAfter edition v site sheet d d' → b' ≡ d'
  unfolding SiteAfter
  site_same edition (Ok _) site sheet p q = same_site b' d' p.bytes q.bytes (p.effects ∙ sym q.effects) p.size q.size
  site_same edition (Err r) site sheet p q = same_zeros p q sizes

  pub table_same : (v : Verdict) (xs : List Node) (m n : ℕ) → TableAfter v xs b b' m → TableAfter v xs d d' n → (b' ≡ d') × (m ≡ n)
  unfolding TableAfter
  table_same (Ok _) xs m n p q = let e = p.0 ∙ sym q.0 in (p.1 ∙ rw e (sym q.1), e)
  table_same (Err r) xs m n p q = (same_zeros p.1 q.1 sizes, p.0 ∙ sym q.0)

  pub set_same : (v : Verdict) (site table : List ℕ) (f g : Found) → SetAfter v site table b b' f → SetAfter v site table d d' g
      → (b' ≡ d') × (f.count ≡ g.count) × (f.rounds ≡ g.rounds)
  unfolding SetAfter
  set_same (Ok _) site table f g p q =
      let e = same_listed p.0 q.0 (λ ρ s h. Iff.rfl) in
      (e.0, e.1, same-makes (site_of site) (form_of (table_of table)) f.rounds g.rounds p.1 q.1)
  set_same (Err r) site table f g p q = (same_zeros p.0 q.0 sizes, p.1.0 ∙ sym q.1.0, p.1.1 ∙ sym q.1.1)

  pub classes_same : (v : Verdict) (site : List ℕ) (m n : ℕ) → ClassesAfter v site b b' m → ClassesAfter v site d d' n → (b' ≡ d') × (m ≡ n)
  unfolding ClassesAfter
  classes_same (Ok _) site m n p q = let e = same_numbers p.0 q.0 in (e, p.1 ∙ ap different e ∙ sym q.1)
  classes_same (Err r) site m n p q = (same_zeros p.0 q.0 sizes, p.1 ∙ sym q.1)
