-- Refinement: slots of two sites that agree on presence, labels and names; of these, those whose neighbours cannot be told apart, round after round. On
-- one site the relation is a bisimulation after as many rounds as there are slots.
use Rattle.std.specs.Prelude.{◌≡◌, ◌⊎◌, ◌↔◌, true, false, ◌&&◌, refl, not, ℕ, zero, suc, ◌≤◌, ◌<◌}
use Rattle.std.proofs.Common.{sym, ◌∙◌, ap, subst, inl, inr, arith}
use Rattle.std.proofs.Math.Bool.{beq}
use mathlib.Core.Logic.Iff
use Rattle.finite.specs.Tests.{same, any, all, count}
use Rattle.finite.proofs.Laws.Bools.{either, look, clash, and_in, and_l, and_r, not_in, not_out, both, beq-true, eq_beq}
use Rattle.finite.proofs.Laws.Below.{same_eq, eq_same, any_in, any_out, all_out, all_in}
use Rattle.finite.proofs.Laws.Reflect.{some_iff, every_iff}
use Rattle.finite.proofs.Laws.Count.{count_more, count-full}
use Rattle.limits.specs.Limits.{slots, labels, names, every_way}
use Rattle.semantics.specs.Form.{Way}
use Rattle.semantics.specs.Holds.{Set, Model, step}
use Rattle.semantics.specs.Table.{way_no, way_of}
use Rattle.semantics.specs.Bisimulation.{Link, Bisimulation, Bisimilar}
use Rattle.semantics.proofs.Laws.Ways.{way_link, link_way}
use Rattle.semantics.specs.Monotone.{◌⊆◌}
use Rattle.semantics.proofs.Laws.FixedPoint.{inside?}
use Rattle.semantics.specs.Refine.{Rel, covers, match, agree, bisimilar_in}

-- the tests, as statements
abbrev pub Cover : Model → Model → Way → Rel → ℕ → ℕ → Type 0
Cover M N w E s t = (s' : ℕ) → s' < slots → step M w s s' ≡ true → (t' : ℕ) × (t' < slots) × (step N w t t' ≡ true) × (E s' t' ≡ true)

pub covers_iff : (M N : Model) (w : Way) (E : Rel) (s t : ℕ) → (covers M N w E s t ≡ true) ↔ Cover M N w E s t
unfolding covers
covers_iff M N w E s t =
    every_iff slots (step M w s) (λ s'. any slots (λ t'. step N w t t' && E s' t')) (λ s' h. some_iff slots (step N w t) (E s') (λ t' k. Iff.rfl))

-- what the tests say both ways round, for every way 0 to 15
abbrev Match : Model → Model → Rel → ℕ → ℕ → Type 0
Match M N E s t = (w : Way) → Link w → Cover M N w E s t × Cover N M w (λ a b. E b a) t s

abbrev Agree : Model → Model → ℕ → ℕ → Type 0
Agree M N s t = (M.present s ≡ N.present t) × ((p : ℕ) → p < labels → M.marked p s ≡ N.marked p t)
    × ((n : ℕ) → n < names → same s (M.place n) ≡ same t (N.place n))

-- a round that told nothing more apart
abbrev pub Stable : Model → Model → ℕ → Type 0
Stable M N k = (s t : ℕ) → s < slots → t < slots → bisimilar_in k M N s t ≡ true → bisimilar_in (suc k) M N s t ≡ true

module _ (M N : Model) where
  next_out : (k s t : ℕ) → bisimilar_in (suc k) M N s t ≡ true → (bisimilar_in k M N s t ≡ true) × Match M N (bisimilar_in k M N) s t
  unfolding bisimilar_in match
  next_out k s t p = (
    and_l _ _ p,
    λ w l.
        let n = link_way w l in
        let q = all_out every_way _ (and_r (bisimilar_in k M N s t) _ p) (way_no w) n.0 in
        subst (λ d. Cover M N d (bisimilar_in k M N) s t × Cover N M d (λ a b. bisimilar_in k M N b a) t s) n.1
        ((covers_iff M N _ _ s t).0 (and_l _ _ q), (covers_iff N M _ _ t s).0 (and_r (covers M N (way_of (way_no w)) (bisimilar_in k M N) s t) _ q)),
  )

  next_in : (k s t : ℕ) → bisimilar_in k M N s t ≡ true → Match M N (bisimilar_in k M N) s t → bisimilar_in (suc k) M N s t ≡ true
  unfolding bisimilar_in match
  next_in k s t p c = and_in p (all_in every_way _ (λ i h.
      let q = c (way_of i) (way_link i h) in
      and_in ((covers_iff M N _ (bisimilar_in k M N) s t).1 q.0) ((covers_iff N M _ (λ a b. bisimilar_in k M N b a) t s).1 q.1)))

  agree_out : (s t : ℕ) → agree M N s t ≡ true → Agree M N s t
  unfolding agree
  agree_out s t p =
      let q = and_r (beq (M.present s) (N.present t)) _ p in (
        beq-true _ _ (and_l _ _ p),
        λ n h. beq-true _ _ (all_out labels _ (and_l _ _ q) n h),
        λ n h. beq-true _ _ (all_out names _ (and_r (all labels (λ i. beq (M.marked i s) (N.marked i t))) _ q) n h),
      )

  agree_in : (s t : ℕ) → Agree M N s t → agree M N s t ≡ true
  unfolding agree
  agree_in s t a = and_in (eq_beq a.0) (and_in (all_in labels _ (λ n h. eq_beq (a.1 n h))) (all_in names _ (λ n h. eq_beq (a.2 n h))))

  -- what a round does not tell apart, the one before does not
  pub bisimilar_less : (k s t : ℕ) → bisimilar_in (suc k) M N s t ≡ true → bisimilar_in k M N s t ≡ true
  bisimilar_less k s t p = (next_out k s t p).0

  bisimilar_agree : (k s t : ℕ) → bisimilar_in k M N s t ≡ true → Agree M N s t
  unfolding bisimilar_in
  bisimilar_agree zero s t p = agree_out s t p
  bisimilar_agree (suc k) s t p = bisimilar_agree k s t (bisimilar_less k s t p)

  -- a round after which nothing more is told apart is a bisimulation
  pub stable_bisimulation : (k : ℕ) → Stable M N k → Bisimulation M N (λ s t. bisimilar_in k M N s t ≡ true)
  stable_bisimulation k c = record {
    on_here = λ s t h j p. (bisimilar_agree k s t p).0;
    on_labels = λ i s t l h j p. (bisimilar_agree k s t p).1 i l;
    on_names = λ i s t l h j p.
        let e = (bisimilar_agree k s t p).2 i l in
        (λ q. same_eq (sym e ∙ eq_same q), λ q. same_eq (e ∙ eq_same q));
    forth = λ w s t x l h j p i q. ((next_out k s t (c s t h j p)).1 w l).0 x i q;
    back = λ w s t x l h j p i q. ((next_out k s t (c s t h j p)).1 w l).1 x i q;
  }

  -- no round tells apart what some bisimulation relates
  pub bisimulation_rounds : (R : ℕ → ℕ → Type 0) → Bisimulation M N R → (k s t : ℕ) → s < slots → t < slots → R s t → bisimilar_in k M N s t ≡ true
  unfolding bisimilar_in
  bisimulation_rounds R r zero s t h j p =
      agree_in s t (
        r.on_here s t h j p,
        λ n l. r.on_labels n s t l h j p,
        λ n l. let e = r.on_names n s t l h j p in both (λ q. eq_same (e.0 (same_eq q))) (λ q. eq_same (e.1 (same_eq q))),
      )
  bisimulation_rounds R r (suc k) s t h j p =
      next_in k s t (bisimulation_rounds R r k s t h j p) (λ w l. (
        λ x i q. let b = r.forth w s t x l h j p i q in (b.0, b.1, b.2, bisimulation_rounds R r k _ _ i b.1 b.3),
        λ x i q. let b = r.back w s t x l h j p i q in (b.0, b.1, b.2, bisimulation_rounds R r k _ _ b.1 i b.3),
      ))

pub bisimilar_refl : (M : Model) (k s : ℕ) → bisimilar_in k M M s s ≡ true
unfolding bisimilar_in
bisimilar_refl M zero s = agree_in M M s s (refl, λ _ _. refl, λ _ _. refl)
bisimilar_refl M (suc k) s = next_in M M k s s (bisimilar_refl M k s) (λ w l. (λ x h q. (x, h, q, bisimilar_refl M k x), λ x h q. (x, h, q, bisimilar_refl M k x)))

pub bisimilar_sym : (M N : Model) (k s t : ℕ) → bisimilar_in k M N s t ≡ true → bisimilar_in k N M t s ≡ true
unfolding bisimilar_in
bisimilar_sym M N zero s t p = let a = agree_out M N s t p in agree_in N M t s (sym a.0, λ n h. sym (a.1 n h), λ n h. sym (a.2 n h))
bisimilar_sym M N (suc k) s t p =
    let a = next_out M N k s t p in
    next_in N M k t s (bisimilar_sym M N k s t a.0) (λ w l. (
      λ x h q. let b = (a.1 w l).1 x h q in (b.0, b.1, b.2, bisimilar_sym M N k _ _ b.3),
      λ x h q. let b = (a.1 w l).0 x h q in (b.0, b.1, b.2, bisimilar_sym M N k _ _ b.3),
    ))

pub bisimilar_trans : (M N O : Model) (k s t u : ℕ) → bisimilar_in k M N s t ≡ true → bisimilar_in k N O t u ≡ true → bisimilar_in k M O s u ≡ true
unfolding bisimilar_in
bisimilar_trans M N O zero s t u p q =
    let a = agree_out M N s t p in
    let b = agree_out N O t u q in
    agree_in M O s u (a.0 ∙ b.0, λ n h. a.1 n h ∙ b.1 n h, λ n h. a.2 n h ∙ b.2 n h)
bisimilar_trans M N O (suc k) s t u p q =
    let a = next_out M N k s t p in
    let b = next_out N O k t u q in
    next_in M O k s u (bisimilar_trans M N O k s t u a.0 b.0) (λ w l. (
      λ x h r. let c = (a.1 w l).0 x h r in let d = (b.1 w l).0 c.0 c.1 c.2 in
          (d.0, d.1, d.2, bisimilar_trans M N O k _ _ _ c.3 d.3),
      λ x h r. let c = (b.1 w l).1 x h r in let d = (a.1 w l).1 c.0 c.1 c.2 in
          (d.0, d.1, d.2, bisimilar_trans M N O k _ _ _ d.3 c.3),
    ))

module _ (M : Model) where
  -- one site, which is stable after as many rounds as there are slots
  -- s is the lowest of its class
  rep : ℕ → Set
  rep k s = not (any s (bisimilar_in k M M s))

  lowest : (k b s : ℕ) → s < b → (r : ℕ) × (r ≤ s) × (rep k r ≡ true) × (bisimilar_in k M M s r ≡ true)
  unfolding rep
  lowest k zero s h = absurd (omega arith)
  lowest k (suc b) s h =
      either
      (look (any s (bisimilar_in k M M s)))
      (λ e. let a = any_out s _ e in
      let c = lowest k b a.0 (omega (arith, a.1)) in
      (c.0, omega (arith, a.1, c.1), c.2, bisimilar_trans M M M k _ _ _ a.2 c.3))
      (λ e. (s, omega arith, ap not e, bisimilar_refl M k s))

  -- two lowest slots of one class are one
  rep_one : (k r u : ℕ) → rep k r ≡ true → rep k u ≡ true → bisimilar_in k M M r u ≡ true → r ≡ u
  unfolding rep
  rep_one k r u p q e =
      let a : ¬ (u < r) = λ h. not_out _ p (any_in r _ u h e) in
      let b : ¬ (r < u) = λ h. not_out _ q (any_in u _ r h (bisimilar_sym M M k r u e)) in
      omega arith

  rep_kept : (k : ℕ) → rep k ⊆ rep (suc k)
  unfolding rep
  rep_kept k x h p = not_in {b = any x (bisimilar_in (suc k) M M x)} (λ q. let a = any_out x _ q in not_out _ p (any_in x _ a.0 a.1 (bisimilar_less M M k _ _ a.2)))

  stable_next : (k : ℕ) → Stable M M k → Stable M M (suc k)
  stable_next k c s t h j p =
      let a = next_out M M k s t p in
      next_in M M (suc k) s t p (λ w l. (
        λ x i q. let b = (a.1 w l).0 x i q in (b.0, b.1, b.2, c _ _ i b.1 b.3),
        λ x i q. let b = (a.1 w l).1 x i q in (b.0, b.1, b.2, c _ _ b.1 i b.3),
      ))

  -- where a round finds no new class, it told nothing more apart
  stable_reps : (k : ℕ) → rep (suc k) ⊆ rep k → Stable M M k
  stable_reps k c s t h j p =
      let a = lowest (suc k) slots s h in
      let b = lowest (suc k) slots t j in
      let near : bisimilar_in k M M a.0 b.0 ≡ true =
      bisimilar_trans M M M k _ _ _ (bisimilar_sym M M k _ _ (bisimilar_less M M k _ _ a.3)) (bisimilar_trans M M M k _ _ _ p (bisimilar_less M M k _ _ b.3)) in
      let e : a.0 ≡ b.0 = rep_one k _ _ (c _ (omega (arith, a.1)) a.2) (c _ (omega (arith, b.1)) b.2) near in
      bisimilar_trans M M M (suc k) s b.0 t (subst (λ x. bisimilar_in (suc k) M M s x ≡ true) e a.3) (bisimilar_sym M M (suc k) _ _ b.3)

  -- each round before finds a new class, and there is one before the first
  settle : (k : ℕ) → Stable M M k ⊎ (k < count slots (rep k))
  unfolding rep any slots
  settle zero = inr (omega (arith, count_more slots (λ _. false) (rep 0) (λ _ _ p. clash p refl) 0 (omega arith) refl refl))
  settle (suc k) =
      either
      (settle k)
      (λ c. inl (stable_next k c))
      (λ c. either
      (inside? (rep (suc k)) (rep k))
      (λ i. inl (stable_next k (stable_reps k i)))
      (λ g. inr (omega (arith, count_more slots (rep k) (rep (suc k)) (rep_kept k) g.0 g.1 g.3 g.2))))

  pub stable_from : (k : ℕ) → slots ≤ suc k → Stable M M k
  stable_from k n =
      either
      (settle k)
      (λ c. c)
      (λ c s t h j p.
      let all_reps : slots ≤ count slots (rep k) = omega arith in
      let e : s ≡ t = rep_one k s t (count-full slots (rep k) all_reps s h) (count-full slots (rep k) all_reps t j) p in
      subst (λ x. bisimilar_in (suc k) M M s x ≡ true) e (bisimilar_refl M (suc k) s))

  pub stable : Stable M M slots
  stable = stable_from slots (omega arith)

  -- what a stable round relates is the largest bisimulation
  pub stable_bisimilar : (k : ℕ) → Stable M M k → (s t : ℕ) → s < slots → t < slots → Bisimilar M s t ↔ (bisimilar_in k M M s t ≡ true)
  unfolding Bisimilar
  stable_bisimilar k c s t h j =
      (λ a. bisimulation_rounds M M (λ x y. a.0 x y ≡ true) a.1 k s t h j a.2, λ p. (bisimilar_in k M M, stable_bisimulation M M k c, p))

  pub bisimilar_rounds : (s t : ℕ) → s < slots → t < slots → Bisimilar M s t ↔ (bisimilar_in slots M M s t ≡ true)
  bisimilar_rounds = stable_bisimilar slots stable

  -- Boolean relations are enough: a bisimulation of any kind relates bisimilar slots alone
  pub bisimulation_bisimilar : (R : ℕ → ℕ → Type 0) → Bisimulation M M R → (s t : ℕ) → s < slots → t < slots → R s t → Bisimilar M s t
  bisimulation_bisimilar R r s t h j p = (bisimilar_rounds s t h j).1 (bisimulation_rounds M M R r slots s t h j p)
