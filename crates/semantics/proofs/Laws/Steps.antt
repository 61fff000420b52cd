-- The steps after an edit, and what the blocks of a diamond and of a box say by them.
use Rattle.std.specs.Prelude.{◌≡◌, ◌⊎◌, ◌≢◌, ◌↔◌, List, Bool, true, ◌&&◌, ℕ, ◌<◌, get_or, refl}
use Rattle.std.proofs.Common.{sym, subst, inl, inr}
use Rattle.std.proofs.Math.Bool.{and_comm, or_comm}
use mathlib.Core.Logic.Iff
use Rattle.finite.specs.Tests.{same}
use Rattle.finite.proofs.Laws.Bools.{either, look}
use Rattle.finite.proofs.Laws.Below.{equal?}
use Rattle.finite.proofs.Laws.Reflect.{same_iff, not_iff, and_iff, or_iff, cond_iff}
use Rattle.limits.specs.Limits.{slots}
use Rattle.semantics.specs.Form.{Way, along, against, every, Form, top}
use Rattle.semantics.specs.Holds.{Env, Model, step, Holds}
use Rattle.semantics.specs.Edit.{Edit, CN1, CN2, AP, DP, AT, RT, DT1, DT2, AS, DS, edit}
use Rattle.semantics.specs.Table.{way_of, atom, one, two}
use Rattle.semantics.specs.Block.{Change, keep, added, only_from, only_to, cut, cut_from, cut_to, cut_off, change, old, block_dia, block_box}
use Rattle.semantics.proofs.Laws.Ways.{everywhere}
use Rattle.semantics.proofs.Laws.Emit.{fill}

-- there is a step from s to t after a change, where X says that there is one before it
unfoldable pub Changed : Change → Model → ℕ → ℕ → Type 0 → Type 0
Changed keep M s t X = X
Changed (added a b) M s t X = X ⊎ ((s ≡ M.place a) × (t ≡ M.place b))
Changed (only_from a b) M s t X = (X × (s ≢ M.place a)) ⊎ ((s ≡ M.place a) × (t ≡ M.place b))
Changed (only_to a b) M s t X = (X × (t ≢ M.place b)) ⊎ ((t ≡ M.place b) × (s ≡ M.place a))
Changed (cut a b) M s t X = X × ¬ ((s ≡ M.place a) × (t ≡ M.place b))
Changed (cut_from n) M s t X = X × (s ≢ M.place n)
Changed (cut_to n) M s t X = X × (t ≢ M.place n)
Changed (cut_off n) M s t X = X × ¬ ((s ≡ M.place n) ⊎ (t ≡ M.place n))

-- an edit that leaves the links leaves the steps
kept : (M N : Model) → N.link ≡ M.link → (w : Way) (s t : ℕ) → (step N w s t ≡ true) ↔ (step M w s t ≡ true)
unfolding step
kept M N e (along l) s t = subst (λ (f : ℕ → ℕ → ℕ → Bool). (f l s t ≡ true) ↔ (M.link l s t ≡ true)) (sym e) Iff.rfl
kept M N e (against l) s t = subst (λ (f : ℕ → ℕ → ℕ → Bool). (f l t s ≡ true) ↔ (M.link l t s ≡ true)) (sym e) Iff.rfl
kept M N e every s t = Iff.rfl

module _ (M : Model) (s t : ℕ) where
  two_ends : (a b : ℕ) → ((same s (M.place a) && same t (M.place b)) ≡ true) ↔ ((s ≡ M.place a) × (t ≡ M.place b))
  two_ends a b = and_iff _ _ (same_iff s _) (same_iff t _)

  pub step_iff : (e : Edit) (w : Way) → (step (edit e M) w s t ≡ true) ↔ Changed (change e w) M s t (step M w s t ≡ true)
  unfolding step edit change Changed
  step_iff (CN1 n1 n2) w = kept M (edit (CN1 n1 n2) M) refl w s t
  step_iff (CN2 n1 n2 f) w = kept M (edit (CN2 n1 n2 f) M) refl w s t
  step_iff (AP n p) w = kept M (edit (AP n p) M) refl w s t
  step_iff (DP n p) w = kept M (edit (DP n p) M) refl w s t
  step_iff (AT m n1 n2) (along l) = either (look (same l m)) (λ e. rw e (or_iff _ _ Iff.rfl (two_ends n1 n2))) (λ e. rw e Iff.rfl)
  step_iff (AT m n1 n2) (against l) =
      either (look (same l m)) (λ e. rw (e, and_comm (same t _) _) (or_iff _ _ Iff.rfl (two_ends n2 n1))) (λ e. rw e Iff.rfl)
  step_iff (AT m n1 n2) every = Iff.rfl
  step_iff (RT f n1 n2) (along l) = either (look (same l f)) (λ e. rw e (cond_iff _ _ _ (same_iff s _) (same_iff t _) Iff.rfl)) (λ e. rw e Iff.rfl)
  step_iff (RT f n1 n2) (against l) =
      either (look (same l f)) (λ e. rw e (cond_iff _ _ _ (same_iff t _) (same_iff s _) Iff.rfl)) (λ e. rw e Iff.rfl)
  step_iff (RT f n1 n2) every = Iff.rfl
  step_iff (DT1 m n1 n2) (along l) = either (look (same l m)) (λ e. rw e (and_iff _ _ Iff.rfl (not_iff _ (two_ends n1 n2)))) (λ e. rw e Iff.rfl)
  step_iff (DT1 m n1 n2) (against l) =
      either (look (same l m)) (λ e. rw (e, and_comm (same t _) _) (and_iff _ _ Iff.rfl (not_iff _ (two_ends n2 n1)))) (λ e. rw e Iff.rfl)
  step_iff (DT1 m n1 n2) every = Iff.rfl
  step_iff (DT2 f n) (along l) = either (look (same l f)) (λ e. rw e (and_iff _ _ Iff.rfl (not_iff _ (same_iff s _)))) (λ e. rw e Iff.rfl)
  step_iff (DT2 f n) (against l) = either (look (same l f)) (λ e. rw e (and_iff _ _ Iff.rfl (not_iff _ (same_iff t _)))) (λ e. rw e Iff.rfl)
  step_iff (DT2 f n) every = Iff.rfl
  step_iff (AS n k) w = kept M (edit (AS n k) M) refl w s t
  step_iff (DS n) (along l) = and_iff _ _ Iff.rfl (not_iff _ (or_iff _ _ (same_iff s _) (same_iff t _)))
  step_iff (DS n) (against l) = rw (or_comm (same t (M.place n)) _) (and_iff _ _ Iff.rfl (not_iff _ (or_iff _ _ (same_iff s _) (same_iff t _))))
  step_iff (DS n) every = Iff.rfl

-- the block of a diamond over the node i holds where a step after the change leads to a slot at which i holds; that of a box, where
-- every such step does
module _ (ts : List Form) (p i : ℕ) (M : Model) (ρ : Env) (s : ℕ) where
  abbrev Steps : Change → ℕ → Type 0
  Steps c t = Changed c M s t (step M (way_of p) s t ≡ true)

  abbrev T : ℕ → Type 0
  T t = Holds M ρ (get_or ts i top) t

  pub dia_says : (c : Change) → Holds M ρ (fill ts (block_dia c p (old i))) s ↔ ((t : ℕ) × (t < slots) × Steps c t × T t)
  unfolding Holds block_dia fill atom one two Changed
  dia_says keep = Iff.rfl
  dia_says (added a b) = (
    λ q. either q
        (λ r. (r.0, r.1, inl r.2, r.3))
        (λ r. let u = r.1 in (u.0, u.1, inr (r.0, u.3.0), u.3.1)),
    λ q. either q.2
        (λ r. inl (q.0, q.1, r, q.3))
        (λ r. inr (r.0, (q.0, q.1, everywhere M s q.0, (r.1, q.3)))),
  )
  dia_says (only_from a b) = (
    λ q. either q
        (λ r. let u = r.1 in (u.0, u.1, inl (u.2, r.0), u.3))
        (λ r. let u = r.1 in (u.0, u.1, inr (r.0, u.3.0), u.3.1)),
    λ q. either q.2
        (λ r. inl (r.1, (q.0, q.1, r.0, q.3)))
        (λ r. inr (r.0, (q.0, q.1, everywhere M s q.0, (r.1, q.3)))),
  )
  dia_says (only_to a b) = (
    λ q. either q
        (λ r. (r.0, r.1, inl (r.2, r.3.0), r.3.1))
        (λ r. let u = r.1 in (u.0, u.1, inr (u.3.0, r.0), u.3.1)),
    λ q. either q.2
        (λ r. inl (q.0, q.1, r.0, (r.1, q.3)))
        (λ r. inr (r.1, (q.0, q.1, everywhere M s q.0, (r.0, q.3)))),
  )
  dia_says (cut a b) = (
    λ q. either q
        (λ r. let u = r.1 in (u.0, u.1, (u.2, λ x. r.0 x.0), u.3))
        (λ r. (r.0, r.1, (r.2, λ x. r.3.0 x.1), r.3.1)),
    λ q. either (equal? s (M.place a))
        (λ e. inr (q.0, q.1, q.2.0, (λ x. q.2.1 (e, x), q.3)))
        (λ e. inl (e, (q.0, q.1, q.2.0, q.3))),
  )
  dia_says (cut_from n) = (λ q. let u = q.1 in (u.0, u.1, (u.2, q.0), u.3), λ q. (q.2.1, (q.0, q.1, q.2.0, q.3)))
  dia_says (cut_to n) = (λ q. (q.0, q.1, (q.2, q.3.0), q.3.1), λ q. (q.0, q.1, q.2.0, (q.2.1, q.3)))
  dia_says (cut_off n) = (
    λ q. let u = q.1 in (u.0, u.1, (u.2, λ x. either x q.0 u.3.0), u.3.1),
    λ q. (λ x. q.2.1 (inl x), (q.0, q.1, q.2.0, (λ x. q.2.1 (inr x), q.3))),
  )

  pub box_says : (c : Change) → Holds M ρ (fill ts (block_box c p (old i))) s ↔ ((t : ℕ) → t < slots → Steps c t → T t)
  unfolding Holds block_box fill atom one two Changed
  box_says keep = Iff.rfl
  box_says (added a b) = (
    λ q t k x. either x
        (λ r. q.0 t k r)
        (λ r. either q.1
        (λ n. absurd (n r.0))
        (λ f. either (f t k (everywhere M s t)) (λ n. absurd (n r.1)) (λ h. h))),
    λ q. (
      λ t k x. q t k (inl x),
      either (equal? s (M.place a))
          (λ e. inr (λ t k _. either (equal? t (M.place b)) (λ d. inr (q t k (inr (e, d)))) (λ d. inl d)))
          (λ e. inl e),
    ),
  )
  box_says (only_from a b) = (
    λ q t k x. either x
        (λ r. either q.0 (λ e. absurd (r.1 e)) (λ f. f t k r.0))
        (λ r. either q.1
        (λ n. absurd (n r.0))
        (λ f. either (f t k (everywhere M s t)) (λ n. absurd (n r.1)) (λ h. h))),
    λ q. either (equal? s (M.place a))
        (λ e. (inl e, inr (λ t k _. either (equal? t (M.place b)) (λ d. inr (q t k (inr (e, d)))) (λ d. inl d))))
        (λ e. (inr (λ t k x. q t k (inl (x, e))), inl e)),
  )
  box_says (only_to a b) = (
    λ q t k x. either x
        (λ r. either (q.0 t k r.0) (λ e. absurd (r.1 e)) (λ h. h))
        (λ r. either q.1
        (λ n. absurd (n r.1))
        (λ f. either (f t k (everywhere M s t)) (λ n. absurd (n r.0)) (λ h. h))),
    λ q. (
      λ t k x. either (equal? t (M.place b)) (λ e. inl e) (λ e. inr (q t k (inl (x, e)))),
      either (equal? s (M.place a))
          (λ e. inr (λ t k _. either (equal? t (M.place b)) (λ d. inr (q t k (inr (d, e)))) (λ d. inl d)))
          (λ e. inl e),
    ),
  )
  box_says (cut a b) = (
    λ q t k x. either q.0
        (λ e. either (q.1 t k x.0) (λ d. absurd (x.1 (e, d))) (λ h. h))
        (λ f. f t k x.0),
    λ q. (
      either (equal? s (M.place a)) (λ e. inl e) (λ e. inr (λ t k x. q t k (x, λ y. e y.0))),
      λ t k x. either (equal? t (M.place b)) (λ e. inl e) (λ e. inr (q t k (x, λ y. e y.1))),
    ),
  )
  box_says (cut_from n) = (
    λ q t k x. either q (λ e. absurd (x.1 e)) (λ f. f t k x.0),
    λ q. either (equal? s (M.place n)) (λ e. inl e) (λ e. inr (λ t k x. q t k (x, e))),
  )
  box_says (cut_to n) = (
    λ q t k x. either (q t k x.0) (λ e. absurd (x.1 e)) (λ h. h),
    λ q t k x. either (equal? t (M.place n)) (λ e. inl e) (λ e. inr (q t k (x, e))),
  )
  box_says (cut_off n) = (
    λ q t k x. either q
        (λ e. absurd (x.1 (inl e)))
        (λ f. either (f t k x.0) (λ e. absurd (x.1 (inr e))) (λ h. h)),
    λ q. either (equal? s (M.place n))
        (λ e. inl e)
        (λ e. inr (λ t k x. either (equal? t (M.place n)) (λ d. inl d) (λ d. inr (q t k (x, λ y. either y e d))))),
  )
