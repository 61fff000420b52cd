-- The list of a rewritten table today and the list of the table after the sheet are the same bytes, with the same count; and the list of a condition
-- that holds everywhere or nowhere.
use Rattle.std.specs.Prelude.{◌≡◌, ◌↔◌, Bool, true, cond, ℕ, ◌<◌, length, replicate, List, false}
use Rattle.std.proofs.Common.{◌∙◌, sym, ap}
use Rattle.std.proofs.Math.Logic.Iff
use Rattle.finite.specs.Tests.{count}
use Rattle.finite.proofs.Laws.Bools.{both}
use Rattle.finite.proofs.Laws.Count.{count_like}
use Rattle.bitset.specs.Set.{set_bytes, has}
use Rattle.bitset.proofs.Laws.Bytes.{same-slots, like_bytes}
use Rattle.limits.specs.Limits.{slots}
use Rattle.semantics.specs.Form.{Form}
use Rattle.semantics.specs.Holds.{Env, Model, Holds}
use Rattle.semantics.specs.Table.{Node, form_of, nodes_fit}
use Rattle.semantics.specs.Edit.{Edit, Valid, sheet, sheet_legal, sheet_goes}
use Rattle.semantics.specs.Block.{rewrite_sheet}
use Rattle.semantics.proofs.Laws.Demands.{rewritten-holds}
use Rattle.listing.specs.Listed.{Listed}

-- two sets A and B, as bytes
module _ {A B : List ℕ} {m n : ℕ} where
  -- the sets of conditions that hold at the same slots are the same bytes
  pub same_listed : {M N : Model} {φ ψ : Form} → Listed M φ A m → Listed N ψ B n
      → ((ρ : Env) (s : ℕ) → s < slots → Holds M ρ φ s ↔ Holds N ρ ψ s) → (A ≡ B) × (m ≡ n)
  unfolding slots
  same_listed p q on =
      let none : Env = λ v x. false in
      let e : A ≡ B =
      same-slots set_bytes A B p.size q.size p.bytes q.bytes (λ s h. both
      (λ g. (q.listed none s h).1 ((on none s h).0 ((p.listed none s h).0 g)))
      (λ g. (p.listed none s h).1 ((on none s h).1 ((q.listed none s h).0 g))))
      in
      (e, p.counted ∙ ap (λ (S : List ℕ). count slots (has S)) e ∙ sym q.counted)

  -- the set of a table rewritten through a sheet, on the site before, and that of the table itself on the site after, are the same bytes
  pub same_lists : (es : List Edit) → sheet_legal es ≡ true → (M : Model) → Valid M → sheet_goes es M ≡ true
      → (xs : List Node) → nodes_fit 0 xs ≡ true → 0 < length xs
      → Listed M (form_of (rewrite_sheet es xs)) A m → Listed (sheet es M) (form_of xs) B n → (A ≡ B) × (m ≡ n)
  same_lists es l M v g xs f h p q = same_listed p q (λ ρ s k. Iff.symm (rewritten-holds es l M v g xs f h ρ s k))

-- a condition that holds at every slot, or at none
pub like_listed : {M : Model} {φ : Form} {A : List ℕ} {n : ℕ} (b : Bool) → Listed M φ A n
    → ((ρ : Env) (s : ℕ) → s < slots → Holds M ρ φ s ↔ (b ≡ true)) → (A ≡ replicate set_bytes (cond b 255 0)) × (n ≡ cond b slots 0)
unfolding slots
like_listed {A = A} b p on =
    let none : Env = λ v x. false in
    let is : (s : ℕ) → s < slots → has A s ≡ b =
    λ s h. both (λ g. (on none s h).0 ((p.listed none s h).0 g)) (λ g. (p.listed none s h).1 ((on none s h).1 g)) in
    (like_bytes b A p.size p.bytes is, p.counted ∙ count_like slots (has A) b is)
