-- A round of refinement: the partition after one round more, way by way; and a round that changes nothing.
use Rattle.std.specs.Prelude.{◌≡◌, refl, Bool, true, ◌&&◌, List, ℕ, suc, ◌+◌, ◌<◌, get_or}
use Rattle.std.proofs.Common.{◌∙◌, ap, ap₂, add-one, sym}
use Rattle.std.proofs.Math.Bool.{and-true, and_assoc, and_comm}
use Rattle.finite.specs.Tests.{same, all}
use Rattle.finite.proofs.Laws.Bools.{and_in, and_l, and_r, both, beq-true, eq_beq}
use Rattle.finite.proofs.Laws.Below.{same_eq, same_refl, eq_same, any_in, any_out, all_in, all_out}
use Rattle.bitset.specs.Set.{set_slots}
use Rattle.limits.specs.Limits.{slots, every_way}
use Rattle.semantics.specs.Holds.{Model, step}
use Rattle.semantics.specs.Table.{way_of}
use Rattle.semantics.specs.Bisimulation.{IsClass}
use Rattle.semantics.proofs.Laws.Classes.{class_is}
use Rattle.semantics.specs.Refine.{Rel, covers, match, bisimilar_in}
use Rattle.semantics.proofs.Laws.Refine.{covers_iff, Stable, stable}
use Rattle.partition.specs.Rows.{row, in_row, sees, see_same, way_rows, Neighbours}
use Rattle.partition.specs.Partition.{across, Partitions, by_seen, Refines}
use Rattle.partition.proofs.Laws.Partitions.{partitions_map, partitions_first, number_small}

-- ---- one way

way_row_lem : (M : Model) (W : List (List (List ℕ))) (w s t : ℕ) → Neighbours M W → w < every_way → s < set_slots → t < set_slots
    → in_row (way_rows W w) s t ≡ step M (way_of w) s t
unfolding Neighbours
way_row_lem M W w s t n hw hs ht = n w s t hw hs ht

-- where the numbers p of the slots of M and q of those of N say what E relates: each neighbour of s is related to some neighbour of t exactly
-- if t sees each class that s sees
module _ (M N : Model) (E : Rel) (w : ℕ) (p q : List ℕ) (R S : List (List ℕ)) (n : (s t : ℕ) → s < set_slots → t < set_slots → across p q s t ≡ E s t)
    (rows : (s t : ℕ) → s < set_slots → t < set_slots → in_row R s t ≡ step M (way_of w) s t)
    (rows' : (s t : ℕ) → s < set_slots → t < set_slots → in_row S s t ≡ step N (way_of w) s t)
    (s t : ℕ) (h : s < set_slots) (j : t < set_slots) where
  seen_covers : ((x : ℕ) → x < set_slots → get_or p x 0 < set_slots) → ((c : ℕ) → c < set_slots → sees (row R s) p c ≡ true → sees (row S t) q c ≡ true) → covers M N (way_of w) E s t ≡ true
  unfolding sees slots
  seen_covers small f = (covers_iff M N (way_of w) E s t).1 (λ x l e.
      let a = any_out set_slots _ (f (get_or p x 0) (small x l) (any_in set_slots _ x l (and_in (rows s x h l ∙ e) (same_refl (get_or p x 0))))) in
      let b = and_r (in_row S t a.0) _ a.2 in
      (a.0, a.1, sym (rows' t a.0 j a.1) ∙ and_l _ _ a.2, sym (n x a.0 l a.1) ∙ eq_same (sym (same_eq b))))

  covers_seen : covers M N (way_of w) E s t ≡ true → (c : ℕ) → sees (row R s) p c ≡ true → sees (row S t) q c ≡ true
  unfolding sees slots
  covers_seen e c f =
      let a = any_out set_slots _ f in
      let d = same_eq (and_r (in_row R s a.0) _ a.2) in
      let b = (covers_iff M N (way_of w) E s t).0 e a.0 a.1 (sym (rows s a.0 h a.1) ∙ and_l _ _ a.2) in
      let g = same_eq (n a.0 b.0 a.1 b.1 ∙ b.3) in
      any_in set_slots _ b.0 b.1 (and_in (rows' t b.0 j b.1 ∙ b.2) (eq_same (sym g ∙ d)))

-- slots see the same classes exactly if their neighbours match
module _ (M N : Model) (E : Rel) (w : ℕ) (p q : List ℕ) (R S : List (List ℕ)) (n : (s t : ℕ) → s < set_slots → t < set_slots → across p q s t ≡ E s t)
    (small : (x : ℕ) → x < set_slots → get_or p x 0 < set_slots) (small' : (x : ℕ) → x < set_slots → get_or q x 0 < set_slots)
    (rows : (s t : ℕ) → s < set_slots → t < set_slots → in_row R s t ≡ step M (way_of w) s t)
    (rows' : (s t : ℕ) → s < set_slots → t < set_slots → in_row S s t ≡ step N (way_of w) s t) where
  turned : (t s : ℕ) → t < set_slots → s < set_slots → across q p t s ≡ E s t
  turned t s j h = both (λ e. sym (n s t h j) ∙ eq_same (sym (same_eq e))) (λ e. eq_same (sym (same_eq (n s t h j ∙ e))))

  pub seen_match : (s t : ℕ) → s < set_slots → t < set_slots → see_same R p S q s t ≡ match M N (way_of w) E s t
  unfolding see_same match
  seen_match s t h j = both
      (λ e.
      let f : (c : ℕ) → c < set_slots → sees (row R s) p c ≡ sees (row S t) q c = λ c l. beq-true _ _ (all_out set_slots _ e c l) in
      and_in
      (seen_covers M N E w p q R S n rows rows' s t h j small (λ c l a. sym (f c l) ∙ a))
      (seen_covers N M (λ a b. E b a) w q p S R turned rows' rows t s j h small' (λ c l a. f c l ∙ a)))
      (λ e. all_in set_slots _ (λ c l. eq_beq (both
      (covers_seen M N E w p q R S n rows rows' s t h j (and_l _ _ e) c)
      (covers_seen N M (λ a b. E b a) w q p S R turned rows' rows t s j h (and_r (covers M N (way_of w) E s t) _ e) c))))

-- ---- one round

-- bisimilar in k rounds, and matched by the first n ways
unfoldable pub upto : Model → Model → ℕ → ℕ → Rel
upto M N k n s t = bisimilar_in k M N s t && all n (λ v. match M N (way_of v) (bisimilar_in k M N) s t)

upto_next : (M N : Model) (k w s t : ℕ) → (upto M N k w s t && match M N (way_of w) (bisimilar_in k M N) s t) ≡ upto M N k (w + 1) s t
unfolding upto all
upto_next M N k w s t =
    rw (add-one w) (and_assoc (bisimilar_in k M N s t) (all w (λ v. match M N (way_of v) (bisimilar_in k M N) s t)) (match M N (way_of w) (bisimilar_in k M N) s t)
    ∙ ap (λ (x : Bool). bisimilar_in k M N s t && x) (and_comm (all w (λ v. match M N (way_of v) (bisimilar_in k M N) s t)) (match M N (way_of w) (bisimilar_in k M N) s t)))

-- two sites, whose numbers p and q after k rounds are refined to a and b by the ways below w: one way more
pub upto_seen : (M N : Model) (k w : ℕ) (W W' : List (List (List ℕ))) (p q a b : List ℕ) → Neighbours M W → Neighbours N W' → w < every_way
    → ((x : ℕ) → x < set_slots → get_or p x 0 < set_slots) → ((x : ℕ) → x < set_slots → get_or q x 0 < set_slots)
    → ((s t : ℕ) → s < set_slots → t < set_slots → across p q s t ≡ bisimilar_in k M N s t)
    → ((s t : ℕ) → s < set_slots → t < set_slots → across a b s t ≡ upto M N k w s t)
    → (s t : ℕ) → s < set_slots → t < set_slots → (across a b s t && see_same (way_rows W w) p (way_rows W' w) q s t) ≡ upto M N k (w + 1) s t
upto_seen M N k w W W' p q a b nb nb' hw sp sq n u s t h j =
    ap₂ ◌&&◌ (u s t h j) (seen_match M N (bisimilar_in k M N) w p q (way_rows W w) (way_rows W' w) n sp sq
    (λ x y hx hy. way_row_lem M W w x y nb hw hx hy) (λ x y hx hy. way_row_lem N W' w x y nb' hw hx hy) s t h j)
    ∙ upto_next M N k w s t

-- one site: its partition after k rounds and no way, after one way more, and after all ways
pub upto-none : (M : Model) (k : ℕ) {p : List ℕ} → Partitions (bisimilar_in k M M) p → Partitions (upto M M k 0) p
unfolding upto all
upto-none M k n = partitions_map (λ s t h j. sym (and-true (bisimilar_in k M M s t))) n

pub upto_more : (M : Model) (k w : ℕ) (W : List (List (List ℕ))) (p q r : List ℕ) → Neighbours M W → w < every_way → Partitions (bisimilar_in k M M) p
    → Partitions (upto M M k w) q → Partitions (by_seen q (way_rows W w) p) r → Partitions (upto M M k (w + 1)) r
unfolding by_seen
upto_more M k w W p q r nb hw n u f =
    let small : (x : ℕ) → x < set_slots → get_or p x 0 < set_slots = number_small p n.lowest in
    partitions_map (upto_seen M M k w W W p p q q nb nb hw small small n.by u.by) f

pub upto_all : (M : Model) (k : ℕ) {q : List ℕ} → Partitions (upto M M k every_way) q → Partitions (bisimilar_in (k + 1) M M) q
unfolding upto bisimilar_in
upto_all M k u = rw (add-one k) (partitions_map {E = upto M M k every_way} {F = bisimilar_in (suc k) M M} (λ s t h j. refl) u)

-- ---- the end

-- two rounds with one partition: nothing more is told apart
pub same_stable : (M : Model) (W : List (List (List ℕ))) (k : ℕ) {p : List ℕ} (q : List ℕ) → Neighbours M W → Partitions (bisimilar_in k M M) p → Refines W p q
    → ((s : ℕ) → s < set_slots → get_or p s 0 ≡ get_or q s 0) → Stable M M k
unfolding slots Refines
same_stable M W k q nb n f e s t h j l =
    let m : Partitions (bisimilar_in (suc k) M M) q = rw add-one at (f M nb k n) in
    sym (m.by s t h j) ∙ ap₂ same (sym (e s h)) (sym (e t j)) ∙ n.by s t h j ∙ l

-- a partition after which nothing more is told apart has the class numbers
pub stable_class : (M : Model) (k : ℕ) {p : List ℕ} → Partitions (bisimilar_in k M M) p → Stable M M k → (s : ℕ) → s < slots → IsClass M s (get_or p s 0)
unfolding slots
stable_class M k n c s h = rw (partitions_first n s h) (class_is M k c s h)

-- after as many rounds as there are slots nothing more is told apart
pub last_stable : (M : Model) (k : ℕ) → k ≡ set_slots → Stable M M k
unfolding slots
last_stable M k e = rw e (stable M)
