-- What the demands on rewriting and on classes come down to, over sites as models and conditions as tables.
use Rattle.std.specs.Prelude.{◌≡◌, ◌⊎◌, ◌↔◌, List, true, ℕ, ◌<◌, length}
use Rattle.std.proofs.Common.{inl, inr}
use mathlib.Core.Logic.Iff
use Rattle.finite.proofs.Laws.Bools.{either, look, clash}
use Rattle.limits.specs.Limits.{slots}
use Rattle.semantics.specs.Holds.{Env, Model, Holds, Distinguishes}
use Rattle.semantics.specs.Table.{Node, form_of, nodes_fit, ClosedTable}
use Rattle.semantics.specs.Edit.{Edit, Valid, sheet, sheet_legal, sheet_goes}
use Rattle.semantics.specs.Block.{rewrite_sheet}
use Rattle.semantics.specs.Bisimulation.{Bisimilar, IsClass}
use Rattle.semantics.proofs.Laws.Rewrite.{sheet-rewritten}
use Rattle.semantics.proofs.Laws.Invariance.{bisimilar_holds}
use Rattle.semantics.specs.Refine.{bisimilar_in}
use Rattle.semantics.proofs.Laws.Refine.{bisimilar_rounds}
use Rattle.semantics.proofs.Laws.Describe.{distinguished}
use Rattle.semantics.proofs.Laws.Classes.{class_same}

-- the rewritten table says today what the table says afterwards
pub rewritten-holds : (es : List Edit) → sheet_legal es ≡ true → (M : Model) → Valid M → sheet_goes es M ≡ true
    → (xs : List Node) → nodes_fit 0 xs ≡ true → 0 < length xs
    → (ρ : Env) (s : ℕ) → s < slots → Holds (sheet es M) ρ (form_of xs) s ↔ Holds M ρ (form_of (rewrite_sheet es xs)) s
rewritten-holds es l M v g xs f h ρ s k = (sheet-rewritten es l xs f).says h M v g ρ s k

-- two slots are bisimilar exactly if no closed condition without slot numbers tells them apart
pub bisimilar_undistinguished : (M : Model) (ρ : Env) (s t : ℕ) → s < slots → t < slots
    → Bisimilar M s t ↔ ¬ ((xs : List Node) × ClosedTable xs × Distinguishes M ρ (form_of xs) s t)
unfolding Distinguishes
bisimilar_undistinguished M ρ s t h k = (
  λ a z.
      let e = bisimilar_holds M s t h k a z.0 z.1 ρ in
      either z.2 (λ q. q.1 (e.0 q.0)) (λ q. q.0 (e.1 q.1)),
  λ n. either (look (bisimilar_in slots M M s t))
      (λ p. (bisimilar_rounds M s t h k).1 p)
      (λ p. absurd (n (distinguished M ρ s t h k (λ a. clash ((bisimilar_rounds M s t h k).0 a) p)))),
)

-- two slots have one class number on the site that a sheet leaves exactly if no closed condition without slot numbers, rewritten
-- through the sheet, tells them apart today
pub class_undistinguished : (es : List Edit) → sheet_legal es ≡ true → (M : Model) → Valid M → sheet_goes es M ≡ true
    → (ρ : Env) (s t c d : ℕ) → s < slots → t < slots → IsClass (sheet es M) s c → IsClass (sheet es M) t d
    → (c ≡ d) ↔ ¬ ((xs : List Node) × ClosedTable xs × Distinguishes M ρ (form_of (rewrite_sheet es xs)) s t)
unfolding Distinguishes
class_undistinguished es l M v g ρ s t c d h k p q =
    let on : (xs : List Node) → ClosedTable xs → (x : ℕ) → x < slots
    → Holds (sheet es M) ρ (form_of xs) x ↔ Holds M ρ (form_of (rewrite_sheet es xs)) x =
    λ xs o. rewritten-holds es l M v g xs o.fits o.some ρ in
    let told : (xs : List Node) → ClosedTable xs → Distinguishes (sheet es M) ρ (form_of xs) s t ↔ Distinguishes M ρ (form_of (rewrite_sheet es xs)) s t =
    λ xs o. apart (on xs o s h) (on xs o t k) in
    Iff.trans (class_same (sheet es M) s t c d h k p q)
    (Iff.trans (bisimilar_undistinguished (sheet es M) ρ s t h k)
    (λ n z. n (z.0, z.1, (told z.0 z.1).1 z.2), λ n z. n (z.0, z.1, (told z.0 z.1).0 z.2)))
  where
    apart : {A B C D : Type 0} → A ↔ B → C ↔ D → ((A × ¬ C) ⊎ (¬ A × C)) ↔ ((B × ¬ D) ⊎ (¬ B × D))
    apart e f = (
      λ r. either r (λ u. inl (e.0 u.0, λ x. u.1 (f.1 x))) (λ u. inr (λ x. u.0 (e.1 x), f.0 u.1)),
      λ r. either r (λ u. inl (e.1 u.0, λ x. u.1 (f.0 x))) (λ u. inr (λ x. u.0 (e.0 x), f.1 u.1)),
    )
