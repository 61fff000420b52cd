-- Nodes of the kinds that an edit does not change are copied.
use Rattle.std.specs.Prelude.{◌≡◌, refl, None, ℕ, ◌≤◌, ◌<◌}
use Rattle.std.proofs.Common.{arith}
use Rattle.semantics.specs.Edit.{Edit, CN1, CN2, AP, DP, AT, RT, DT1, DT2, AS, DS}
use Rattle.semantics.specs.Table.{kind_of}
use Rattle.semantics.specs.Block.{old, change, block_dia, block_box, block_leaf, block}
use Rattle.condition.proofs.Laws.Limits.{each_kind, kind_past}
use Rattle.limits.specs.Limits.{kinds}
use Rattle.spelling.specs.Rows.{copied}
use Rattle.spelling.specs.Spelling.{spelled, Spells}
use Rattle.emitting.specs.State.{first_kind, end_kind}

-- kind k is not one of those that edit e changes, and is known
abbrev Kept : Edit → ℕ → Type 0
Kept e k = (k < kinds) × (first_kind e ≤ k → end_kind e ≤ k)

-- a kind that the edit may change
may : {A : Type 0} {a b k : ℕ} → a ≤ k → k < b → (a ≤ k → b ≤ k) → A
may h g f = let l = f h in absurd (omega arith)

kept_by : (w t u : ℕ) (e : Edit) (k : ℕ) → Kept e k → copied (kind_of k) w (old t) (old u) ≡ block e (kind_of k) w (old t) (old u)
unfolding copied kind_of block block_leaf block_dia block_box change
kept_by w t u (CN1 n1 n2) =
    each_kind _ (λ h. refl) (λ h. refl) (λ h. refl) (λ h. may (omega arith) (omega arith) h.1)
    (λ h. refl) (λ h. refl) (λ h. refl) (λ h. refl)
    (λ h. refl) (λ h. refl) (λ h. refl) (λ h. refl)
    (λ k g h. rw (kind_past k g) refl)
kept_by w t u (CN2 n1 n2 f) =
    each_kind _ (λ h. refl) (λ h. refl) (λ h. refl) (λ h. may (omega arith) (omega arith) h.1)
    (λ h. refl) (λ h. refl) (λ h. refl) (λ h. refl)
    (λ h. refl) (λ h. refl) (λ h. refl) (λ h. refl)
    (λ k g h. rw (kind_past k g) refl)
kept_by w t u (AP n q) =
    each_kind _ (λ h. refl) (λ h. refl) (λ h. may (omega arith) (omega arith) h.1) (λ h. refl)
    (λ h. refl) (λ h. refl) (λ h. refl) (λ h. refl)
    (λ h. refl) (λ h. refl) (λ h. refl) (λ h. refl)
    (λ k g h. rw (kind_past k g) refl)
kept_by w t u (DP n q) =
    each_kind _ (λ h. refl) (λ h. refl) (λ h. may (omega arith) (omega arith) h.1) (λ h. refl)
    (λ h. refl) (λ h. refl) (λ h. refl) (λ h. refl)
    (λ h. refl) (λ h. refl) (λ h. refl) (λ h. refl)
    (λ k g h. rw (kind_past k g) refl)
kept_by w t u (AT f n1 n2) =
    each_kind _ (λ h. refl) (λ h. refl) (λ h. refl) (λ h. refl)
    (λ h. refl) (λ h. refl) (λ h. refl) (λ h. refl)
    (λ h. may (omega arith) (omega arith) h.1) (λ h. may (omega arith) (omega arith) h.1) (λ h. refl) (λ h. refl)
    (λ k g h. rw (kind_past k g) refl)
kept_by w t u (RT f n1 n2) =
    each_kind _ (λ h. refl) (λ h. refl) (λ h. refl) (λ h. refl)
    (λ h. refl) (λ h. refl) (λ h. refl) (λ h. refl)
    (λ h. may (omega arith) (omega arith) h.1) (λ h. may (omega arith) (omega arith) h.1) (λ h. refl) (λ h. refl)
    (λ k g h. rw (kind_past k g) refl)
kept_by w t u (DT1 f n1 n2) =
    each_kind _ (λ h. refl) (λ h. refl) (λ h. refl) (λ h. refl)
    (λ h. refl) (λ h. refl) (λ h. refl) (λ h. refl)
    (λ h. may (omega arith) (omega arith) h.1) (λ h. may (omega arith) (omega arith) h.1) (λ h. refl) (λ h. refl)
    (λ k g h. rw (kind_past k g) refl)
kept_by w t u (DT2 f n) =
    each_kind _ (λ h. refl) (λ h. refl) (λ h. refl) (λ h. refl)
    (λ h. refl) (λ h. refl) (λ h. refl) (λ h. refl)
    (λ h. may (omega arith) (omega arith) h.1) (λ h. may (omega arith) (omega arith) h.1) (λ h. refl) (λ h. refl)
    (λ k g h. rw (kind_past k g) refl)
kept_by w t u (AS n s) =
    each_kind _ (λ h. refl) (λ h. may (omega arith) (omega arith) h.1) (λ h. may (omega arith) (omega arith) h.1) (λ h. may (omega arith) (omega arith) h.1)
    (λ h. refl) (λ h. refl) (λ h. refl) (λ h. refl)
    (λ h. refl) (λ h. refl) (λ h. refl) (λ h. refl)
    (λ k g h. rw (kind_past k g) refl)
kept_by w t u (DS n) =
    each_kind _ (λ h. refl) (λ h. may (omega arith) (omega arith) h.1) (λ h. may (omega arith) (omega arith) h.1) (λ h. may (omega arith) (omega arith) h.1)
    (λ h. may (omega arith) (omega arith) h.1) (λ h. may (omega arith) (omega arith) h.1) (λ h. may (omega arith) (omega arith) h.1) (λ h. may (omega arith) (omega arith) h.1)
    (λ h. may (omega arith) (omega arith) h.1) (λ h. may (omega arith) (omega arith) h.1) (λ h. refl) (λ h. refl)
    (λ k g h. rw (kind_past k g) refl)

pub kept : {e : Edit} {k : ℕ} (w : ℕ) → k < kinds → (first_kind e ≤ k → end_kind e ≤ k) → Spells e k w None
unfolding spelled
kept {e} {k} w h g = record { right = λ t u. kept_by w t u e k (h, g); numbers = tt }
