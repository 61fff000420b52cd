-- The loop over the edits: at the start, after one more, at the one that does not go through, and at the end; and the answer.
use Rattle.std.specs.Prelude.{◌≡◌, refl, List, [], ◌∷◌, true, false, not, ℕ, suc, ◌+◌, ◌/◌, ◌≤◌, ◌<◌, length, drop, replicate, Err}
use Rattle.std.proofs.Common.{◌∙◌, add-one, arith, sym, ap, drop_of_length-le}
use Rattle.std.proofs.Math.ListN.{length-replicate}
use Rattle.finite.specs.Tests.{below}
use Rattle.finite.proofs.Laws.Bools.{either, look, clash, both}
use Rattle.finite.proofs.Laws.Below.{below_in, below_out, below-not}
use Rattle.semantics.specs.Holds.{Model}
use Rattle.semantics.specs.Edit.{Edit, edit, goes, sheet, sheet_goes}
use Rattle.site.specs.Layout.{site_bytes}
use Rattle.site.specs.Site.{site_of}
use Rattle.sheet.specs.Bytes.{edit_at, edits_of}
use Rattle.sheet.proofs.Laws.Read.{edits-length, edits-drop}
use Rattle.verdict.specs.Verdict.{Verdict, Accepted}
use Rattle.verdict.specs.declared.Refusal.{Refusal}
use Rattle.verdict.specs.declared.Refusal.TheVariants.{NotThrough}
use Rattle.verdict.proofs.Laws.{refused}
use Rattle.applying.specs.Stuck.{stuck_at}
use Rattle.applying.specs.Refusal.{goes_verdict}
use Rattle.applying.specs.Applies.{Applies, Ran}
use Rattle.applying.proofs.Laws.Goes.{goes_out, goes-not}

-- one edit of a sheet
stuck_on : (e : Edit) (es : List Edit) (M : Model) → goes e M ≡ true → stuck_at (e ∷ es) M ≡ suc (stuck_at es (edit e M))
unfolding stuck_at
stuck_on e es M g = rw g

stuck_here : (e : Edit) (es : List Edit) (M : Model) → goes e M ≡ false → stuck_at (e ∷ es) M ≡ 0
unfolding stuck_at
stuck_here e es M g = rw g

-- a sheet goes through just where it is stuck nowhere
pub stuck_goes : (es : List Edit) (M : Model) → (sheet_goes es M ≡ not (below (stuck_at es M) (length es))) × (stuck_at es M ≤ length es)
unfolding stuck_at sheet_goes
stuck_goes [] M = (sym (ap not (below-not 0 0 (omega arith))), omega arith)
stuck_goes (e ∷ es) M =
    let ih = stuck_goes es (edit e M) in
    either
    (look (goes e M))
    (λ g. rw g (ih.0 ∙ ap not (step (stuck_at es (edit e M)) (length es)), omega (arith, ih.1)))
    (λ g. rw g (sym (ap not (below_in 0 (suc (length es)) (omega arith))), omega arith))
  where
    step : (m n : ℕ) → below m n ≡ below (suc m) (suc n)
    step m n =
        both
        (λ p. let h = below_out m n p in below_in (suc m) (suc n) (omega arith))
        (λ p. let h = below_out (suc m) (suc n) p in below_in m n (omega arith))

-- the first k edits went through and left the bytes R
pub record Progress (edition : ℕ) (S s R : List ℕ) (k : ℕ) : Type 0 where
  pub far : stuck_at (edits_of edition s) (site_of S) ≡ k + stuck_at (drop k (edits_of edition s)) (site_of R)
  pub whole : sheet (edits_of edition s) (site_of S) ≡ sheet (drop k (edits_of edition s)) (site_of R)
  pub upto : k ≤ length s / 4

pub run_start : (edition : ℕ) (S s : List ℕ) → Progress edition S s S 0
run_start edition S s = record { far = omega arith; whole = refl; upto = omega arith }

module _ {edition : ℕ} {S s R : List ℕ} {k : ℕ} (p : Progress edition S s R k) where
  module _ {e : Edit} (q : e ≡ edit_at edition s k) (h : k < length s / 4) where
    -- what is left of the sheet begins with the edit e
    ahead : drop k (edits_of edition s) ≡ e ∷ drop (suc k) (edits_of edition s)
    ahead = edits-drop edition s k h ∙ ap (λ (x : Edit). x ∷ drop (suc k) (edits_of edition s)) (sym q)

    pub run_more : goes e (site_of R) ≡ true → {R' : List ℕ} → site_of R' ≡ edit e (site_of R) → Progress edition S s R' (k + 1)
    unfolding sheet
    run_more g {R'} d =
        let ds : List Edit = drop (suc k) (edits_of edition s) in
        let f : stuck_at (drop k (edits_of edition s)) (site_of R) ≡ suc (stuck_at ds (site_of R')) =
        ap (λ (es : List Edit). stuck_at es (site_of R)) ahead
        ∙ stuck_on e ds (site_of R) g
        ∙ ap (λ (N : Model). suc (stuck_at ds N)) (sym d)
        in
        let u : k + stuck_at (drop k (edits_of edition s)) (site_of R) ≡ suc k + stuck_at ds (site_of R') = omega (arith, f) in
        record {
          far = rw (add-one k) (p.far ∙ u);
          whole = rw (add-one k) (p.whole ∙ ap (λ (es : List Edit). sheet es (site_of R)) ahead ∙ ap (λ (N : Model). sheet ds N) (sym d));
          upto = omega arith;
        }

    pub run_stop : goes e (site_of R) ≡ false → Ran edition S s R (Err (NotThrough k))
    unfolding goes_verdict
    run_stop g =
        let es : List Edit = edits_of edition s in
        let z : stuck_at (drop k es) (site_of R) ≡ 0 =
        ap (λ (es : List Edit). stuck_at es (site_of R)) ahead ∙ stuck_here e (drop (suc k) es) (site_of R) g
        in
        let w : stuck_at es (site_of S) ≡ k = omega (arith, z, p.far) in
        let n : sheet_goes es (site_of S) ≡ false =
        (stuck_goes es (site_of S)).0 ∙ ap not (below_in (stuck_at es (site_of S)) (length es) (omega (arith, w, edits-length edition s)))
        in
        record { answer = rw (n, w); whole = λ e. refused e }

  pub run_end : length s / 4 ≤ k → Ran edition S s R Accepted
  unfolding stuck_at sheet goes_verdict
  run_end h =
      let es : List Edit = edits_of edition s in
      let n : length es ≤ k = omega (arith, edits-length edition s) in
      let d : drop k es ≡ [] = drop_of_length-le es n in
      let z : stuck_at (drop k es) (site_of R) ≡ 0 = ap (λ (es : List Edit). stuck_at es (site_of R)) d in
      let g : sheet_goes es (site_of S) ≡ true =
      (stuck_goes es (site_of S)).0 ∙ ap not (below-not (stuck_at es (site_of S)) (length es) (omega (arith, z, p.far)))
      in
      record { answer = rw g; whole = λ u. sym (p.whole ∙ ap (λ (es : List Edit). sheet es (site_of R)) d) }

-- the edits ran on a copy S₀ of the site S
module _ {edition : ℕ} {S S₀ s R : List ℕ} {r : Verdict} (c : S₀ ≡ S) (ran : Ran edition S₀ s R r) where
  on_site_lem : Ran edition S s R r
  on_site_lem = rw c at ran

  pub ran_through : length R ≡ site_bytes → r ≡ Accepted → Applies edition S s R r
  ran_through l e = record {
    answer = on_site_lem.answer;
    left = λ u. on_site_lem.whole e;
    zeros = λ u. clash (goes_out (edits_of edition s) (site_of S) (sym on_site_lem.answer ∙ e)) u;
    long = l;
  }

  pub ran_stuck : length R ≡ site_bytes → {q : Refusal} → r ≡ Err q → {Z : List ℕ} → Z ≡ replicate (length R) 0 → Applies edition S s Z r
  ran_stuck l e z = record {
    answer = on_site_lem.answer;
    left = λ u. clash u (goes-not (edits_of edition s) (site_of S) (sym on_site_lem.answer ∙ e));
    zeros = λ u. z ∙ ap (λ (n : ℕ). replicate n 0) l;
    long = ap length z ∙ length-replicate {A = ℕ} (length R) 0 ∙ l;
  }
