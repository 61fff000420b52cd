-- Bisimulation invariance: slots that a total bisimulation between two sites relates satisfy the same closed conditions without slot numbers.
use Rattle.std.specs.Prelude.{◌≡◌, ◌⊎◌, ◌↔◌, ◌≢◌, List, [], ◌∷◌, Bool, true, false, eqb, length, get_or, refl, not, ◌&&◌, ◌||◌, ℕ, zero, suc, ◌-◌, ◌<◌}
use Rattle.std.proofs.Common.{sym, ◌∙◌, inl, inr, arith, eqb→eq, ap, ap₂}
use mathlib.Core.Logic.Iff
use Rattle.finite.specs.Tests.{same, below, any, all}
use Rattle.finite.proofs.Laws.Bools.{either, look, and_in, and_l, and_r, or_l, or_r, not_out, both}
use Rattle.finite.proofs.Laws.Below.{same_eq, eq_same, equal?, below_in, below_out, any_in, any_out, all_out}
use Rattle.finite.proofs.Laws.Bits.{all-below}
use Rattle.finite.proofs.Laws.Dual.{all_any}
use Rattle.limits.specs.Limits.{slots, labels, names, variables, every_way}
use Rattle.semantics.specs.Form.{Way, every, Form, top, here, label, name, var, neg, or, and, dia, box, mu, nu, slot, occ, free, closed}
use Rattle.semantics.specs.Holds.{Set, Env, put, Model, step, Holds}
use Rattle.semantics.specs.Table.{k_true, k_here, k_label, k_name, k_var, k_slot, k_not, k_dia, k_box, k_mu, k_nu, k_or, k_and, Kind, leaf, unary, binary, kind_no, kind_of, way_of, Node, atom, one, two, build, tree_at, form_of, leaf_fits, unary_fits, kind_fits, node_fits, nodes_fit, slot_free, ClosedTable}
use Rattle.semantics.specs.Bisimulation.{Link, Bisimulation, Total, Bisimilar}
use Rattle.semantics.proofs.Laws.Ways.{way_link}
use Rattle.semantics.proofs.Laws.TreeAt.{fits_at_lem, blank, Subtrees, tree_ind}
use Rattle.semantics.proofs.Laws.Monotone.{coincide}
use Rattle.semantics.specs.FixedPoint.{iter, none, full}
use Rattle.semantics.specs.Eval.{eval}
use Rattle.semantics.proofs.Laws.Eval.{eval_table}
use Rattle.semantics.specs.Refine.{bisimilar_in}
use Rattle.semantics.proofs.Laws.Refine.{bisimilar_refl, stable, stable_bisimulation, bisimilar_rounds}

-- numbers in range and no slot number: what a bisimulation respects
WayFits : Way → Type 0
WayFits w = (w ≡ every) ⊎ Link w

Plain : Form → Type 0
Plain top = Unit {0}
Plain here = Unit {0}
Plain (label p) = p < labels
Plain (name n) = n < names
Plain (var v) = v < variables
Plain (neg φ) = Plain φ
Plain (or φ ψ) = Plain φ × Plain ψ
Plain (and φ ψ) = Plain φ × Plain ψ
Plain (dia w φ) = WayFits w × Plain φ
Plain (box w φ) = WayFits w × Plain φ
Plain (mu v φ) = Plain φ
Plain (nu v φ) = Plain φ
Plain (slot k) = ⊥

module _ (M N : Model) (R : ℕ → ℕ → Type 0) (bisim : Bisimulation M N R) (total : Total R) where
  -- two sets that related slots are in together
  abbrev Invariant : Set → Set → Type 0
  Invariant S T = (s t : ℕ) → s < slots → t < slots → R s t → S s ≡ T t

  put_invariant : (ρ σ : Env) (v : ℕ) (S T : Set) → ((u : ℕ) → u < variables → Invariant (ρ u) (σ u)) → Invariant S T
      → (u : ℕ) → u < variables → Invariant (put ρ v S u) (put σ v T u)
  unfolding put
  put_invariant ρ σ v S T r i u l s t h k q = either (look (same u v)) (λ x. rw (x, put) (i s t h k q)) (λ x. rw (x, put) (r u l s t h k q))

  iter_invariant : (F G : Set → Set) → ((S T : Set) → Invariant S T → Invariant (F S) (G T))
      → (S T : Set) → Invariant S T → (k : ℕ) → Invariant (iter k F S) (iter k G T)
  unfolding iter
  iter_invariant F G f S T i zero s t h k q = i s t h k q
  iter_invariant F G f S T i (suc n) s t h k q = f (iter n F S) (iter n G T) (iter_invariant F G f S T i n) s t h k q

  -- everywhere reaches related slots of both sites, for the bisimulation is total
  every_invariant : (X Y : Set) → Invariant X Y → any slots X ≡ any slots Y
  every_invariant X Y i = both
      (λ p. let a = any_out slots _ p in
      let b = total.ahead a.0 a.1 in
      any_in slots _ b.0 b.1 (sym (i _ _ a.1 b.1 b.2) ∙ a.2))
      (λ p. let a = any_out slots _ p in
      let b = total.behind a.0 a.1 in
      any_in slots _ b.0 b.1 (i _ _ b.1 a.1 b.2 ∙ a.2))

  link_invariant : (X Y : Set) → Invariant X Y → (w : Way) → Link w
      → Invariant (λ s. any slots (λ u. step M w s u && X u)) (λ t. any slots (λ u. step N w t u && Y u))
  link_invariant X Y i w l s t h k q = both
      (λ p. let a = any_out slots _ p in
      let b = bisim.forth w s t a.0 l h k q a.1 (and_l _ _ a.2) in
      any_in slots _ b.0 b.1 (and_in b.2 (sym (i _ _ a.1 b.1 b.3) ∙ and_r (step M w s a.0) _ a.2)))
      (λ p. let a = any_out slots _ p in
      let b = bisim.back w s t a.0 l h k q a.1 (and_l _ _ a.2) in
      any_in slots _ b.0 b.1 (and_in b.2 (i _ _ b.1 a.1 b.3 ∙ and_r (step N w t a.0) _ a.2)))

  any_invariant : (X Y : Set) → Invariant X Y → (w : Way) → WayFits w
      → Invariant (λ s. any slots (λ u. step M w s u && X u)) (λ t. any slots (λ u. step N w t u && Y u))
  unfolding WayFits step
  any_invariant X Y i w f s t h k q = either f (λ e. rw e (every_invariant X Y i)) (λ l. link_invariant X Y i w l s t h k q)

  all_invariant : (X Y : Set) → Invariant X Y → (w : Way) → WayFits w
      → Invariant (λ s. all slots (λ u. not (step M w s u) || X u)) (λ t. all slots (λ u. not (step N w t u) || Y u))
  all_invariant X Y i w f s t h k q =
      all_any slots (step M w s) X
      ∙ ap not (any_invariant (λ u. not (X u)) (λ u. not (Y u)) (λ x y m n r. ap not (i x y m n r)) w f s t h k q)
      ∙ sym (all_any slots (step N w t) Y)

  invariant : (φ : Form) → Plain φ → (ρ σ : Env) → ((v : ℕ) → v < variables → Invariant (ρ v) (σ v)) → Invariant (eval M ρ φ) (eval N σ φ)
  unfolding eval Plain none full
  invariant top f ρ σ r s t h k q = refl
  invariant here f ρ σ r s t h k q = bisim.on_here s t h k q
  invariant (label p) f ρ σ r s t h k q = bisim.on_labels p s t f h k q
  invariant (name m) f ρ σ r s t h k q = let e = bisim.on_names m s t f h k q in both (λ x. eq_same (e.0 (same_eq x))) (λ x. eq_same (e.1 (same_eq x)))
  invariant (var v) f ρ σ r s t h k q = r v f s t h k q
  invariant (neg φ) f ρ σ r s t h k q = ap not (invariant φ f ρ σ r s t h k q)
  invariant (or φ ψ) f ρ σ r s t h k q = ap₂ ◌||◌ (invariant φ f.0 ρ σ r s t h k q) (invariant ψ f.1 ρ σ r s t h k q)
  invariant (and φ ψ) f ρ σ r s t h k q = ap₂ ◌&&◌ (invariant φ f.0 ρ σ r s t h k q) (invariant ψ f.1 ρ σ r s t h k q)
  invariant (dia w φ) f ρ σ r s t h k q = any_invariant (eval M ρ φ) (eval N σ φ) (invariant φ f.1 ρ σ r) w f.0 s t h k q
  invariant (box w φ) f ρ σ r s t h k q = all_invariant (eval M ρ φ) (eval N σ φ) (invariant φ f.1 ρ σ r) w f.0 s t h k q
  invariant (mu v φ) f ρ σ r s t h k q =
      iter_invariant (λ S. eval M (put ρ v S) φ) (λ S. eval N (put σ v S) φ)
      (λ S T i. invariant φ f (put ρ v S) (put σ v T) (put_invariant ρ σ v S T r i)) none none (λ _ _ _ _ _. refl) slots s t h k q
  invariant (nu v φ) f ρ σ r s t h k q =
      iter_invariant (λ S. eval M (put ρ v S) φ) (λ S. eval N (put σ v S) φ)
      (λ S T i. invariant φ f (put ρ v S) (put σ v T) (put_invariant ρ σ v S T r i)) full full (λ _ _ _ _ _. refl) slots s t h k q
  invariant (slot j) f ρ σ r s t h k q = absurd f

way_fits : (p : ℕ) → below p (suc every_way) ≡ true → WayFits (way_of p)
unfolding WayFits way_of below
way_fits p h =
    either
    (equal? p every_way)
    (λ e. rw e (inl refl))
    (λ e. inr (way_link p (omega (arith, below_out p (suc every_way) h))))

-- the kind with a number has that number
kind_number : (n : ℕ) → n < 13 → kind_no (kind_of n) ≡ n
unfolding kind_no kind_of
kind_number n h = eqb→eq _ _ (all-below (λ m. eqb (kind_no (kind_of m)) m) 13 tt n h)

free-at : (xs : List Node) (i : ℕ) → slot_free xs ≡ true → i < length xs → (get_or xs i blank).kind ≢ 12
unfolding slot_free kind_no
free-at [] i f h = absurd (omega arith)
free-at (x ∷ xs) zero f h = λ e. not_out _ (and_l _ _ f) (eq_same e)
free-at (x ∷ xs) (suc i) f h = free-at xs i (and_r (not (same x.kind 12)) _ f) (omega arith)

-- the trees of a table without slot numbers
table_plain : (xs : List Node) → nodes_fit 0 xs ≡ true → slot_free xs ≡ true → (i : ℕ) → i < length xs → Plain (tree_at xs i)
unfolding kind_no build atom one two Plain Subtrees node_fits kind_fits leaf_fits unary_fits
table_plain xs fits n =
    tree_ind Plain xs fits (λ i x k φ ψ h ex ek f _ subtrees. go i x k φ ψ f (not_slot i x k h ex ek) subtrees)
  where
    not_slot : (i : ℕ) (x : Node) (k : Kind) → i < length xs → get_or xs i blank ≡ x → kind_of x.kind ≡ k → k ≢ leaf k_slot
    not_slot i x k h ex ek e =
        let small = below_out _ 13 (and_l _ _ (fits_at_lem xs blank fits i h)) in
        free-at xs i n h (sym (kind_number _ small) ∙ ap kind_no (ap (λ (y : Node). kind_of y.kind) ex ∙ ek ∙ e))

    go : (i : ℕ) (x : Node) (k : Kind) (φ ψ : Form) → kind_fits i x k ≡ true → k ≢ leaf k_slot → Subtrees Plain k φ ψ → Plain (build k x.param φ ψ)
    go i x (leaf k_true) φ ψ f n q = tt
    go i x (leaf k_here) φ ψ f n q = tt
    go i x (leaf k_label) φ ψ f n q = below_out _ _ (and_l _ _ f)
    go i x (leaf k_name) φ ψ f n q = below_out _ _ (and_l _ _ f)
    go i x (leaf k_var) φ ψ f n q = below_out _ _ (and_l _ _ f)
    go i x (leaf k_slot) φ ψ f n q = n refl
    go i x (unary k_not) φ ψ f n q = q
    go i x (unary k_dia) φ ψ f n q = (way_fits _ (and_l _ _ f), q)
    go i x (unary k_box) φ ψ f n q = (way_fits _ (and_l _ _ f), q)
    go i x (unary k_mu) φ ψ f n q = q
    go i x (unary k_nu) φ ψ f n q = q
    go i x (binary k_or) φ ψ f n q = q
    go i x (binary k_and) φ ψ f n q = q

closed_out : (φ : Form) → closed φ ≡ true → (b : Bool) (v : ℕ) → v < variables → ¬ (occ b v φ ≡ true)
unfolding closed free
closed_out φ c true v h o = not_out _ (all_out variables _ c v h) (or_l _ _ o)
closed_out φ c false v h o = not_out _ (all_out variables _ c v h) (or_r (occ true v φ) _ o)

-- the valuation ρ with the empty set for each variable: a closed condition says the same under it
cleared : Env → Env
cleared ρ v x = not (below v variables) && ρ v x

closed-value : (M : Model) (xs : List Node) → ClosedTable xs → (ρ : Env) (s : ℕ) → s < slots
    → (eval M (cleared ρ) (tree_at xs (length xs - 1)) s ≡ true) ↔ Holds M ρ (tree_at xs (length xs - 1)) s
unfolding form_of cleared
closed-value M xs c ρ s h =
    let i : ℕ = length xs - 1 in
    let agree : (b : Bool) (v : ℕ) → occ b v (tree_at xs i) ≡ true → (x : ℕ) → x < slots → cleared ρ v x ≡ ρ v x =
    λ b v o x l. either (look (below v variables))
    (λ e. absurd (closed_out (tree_at xs i) c.is_closed b v (below_out _ _ e) o))
    (λ e. rw e) in
    Iff.trans
    (eval_table xs c.fits c.even_rule i (omega (arith, c.some)) M (cleared ρ) s h)
    (coincide M (tree_at xs i) (cleared ρ) ρ agree s h)

-- slots that a total bisimulation relates satisfy the same closed conditions without slot numbers
pub total-holds : (M N : Model) (R : ℕ → ℕ → Type 0) → Bisimulation M N R → Total R → (s t : ℕ) → s < slots → t < slots → R s t
    → (xs : List Node) → ClosedTable xs → (ρ : Env) → Holds M ρ (form_of xs) s ↔ Holds N ρ (form_of xs) t
unfolding form_of cleared
total-holds M N R r total s t h k q xs c ρ =
    let i : ℕ = length xs - 1 in
    let at_s = closed-value M xs c ρ s h in
    let at_t = closed-value N xs c ρ t k in
    let e = invariant M N R r total (tree_at xs i) (table_plain xs c.fits c.no_slot_number i (omega (arith, c.some))) (cleared ρ) (cleared ρ)
    (λ v l _ _ _ _ _. rw (below_in v variables l) refl) s t h k q in
    (λ p. at_t.0 (sym e ∙ at_s.1 p), λ p. at_s.0 (e ∙ at_t.1 p))

-- bisimilar slots satisfy the same closed conditions without slot numbers, for the largest bisimulation on one site is total
pub bisimilar_holds : (M : Model) (s t : ℕ) → s < slots → t < slots → Bisimilar M s t
    → (xs : List Node) → ClosedTable xs → (ρ : Env) → Holds M ρ (form_of xs) s ↔ Holds M ρ (form_of xs) t
bisimilar_holds M s t h k a =
    total-holds M M (λ x y. bisimilar_in slots M M x y ≡ true) (stable_bisimulation M M slots (stable M))
    (record { ahead = λ x l. (x, l, bisimilar_refl M slots x); behind = λ x l. (x, l, bisimilar_refl M slots x) })
    s t h k ((bisimilar_rounds M s t h k).0 a)
