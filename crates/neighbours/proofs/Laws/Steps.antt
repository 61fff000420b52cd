-- The rows of a link and of its reverse, and those of all ways.
use Rattle.std.specs.Prelude.{◌≡◌, refl, Bool, true, false, not, ◌&&◌, ◌||◌, cond, Some, List, [], ◌++◌, ℕ, ◌+◌, ◌-◌, ◌≤◌, ◌<◌, length, get_or, set}
use Rattle.std.proofs.Common.{◌∙◌, sym, ap, ap₂, add-one, arith, length-set, get_or-set_same, get_or-set_other}
use Rattle.std.proofs.lemmas.List.{get_or_append_left, get_or-append_right}
use Rattle.std.proofs.Math.Bool.{or-false, and-false, and-true, or_comm}
use Rattle.finite.specs.Tests.{same, below, any}
use Rattle.finite.proofs.Laws.Bools.{either, look, clash, no_true, and_l, and_r, or_out, both}
use Rattle.finite.proofs.Laws.Below.{equal?, same_eq, same_refl, ne_same, below_in, below_out, below-not, not-below, any_in, any_out, any_none, any_cong}
use Rattle.bitset.specs.Set.{set_slots, has, Is, Next}
use Rattle.limits.specs.Limits.{links, every_way}
use Rattle.semantics.specs.Holds.{Model, step}
use Rattle.semantics.specs.Table.{way_of}
use Rattle.semantics.specs.Refine.{Rel}
use Rattle.semantics.proofs.Laws.Ways.{way_along, way_against}
use Rattle.partition.specs.Gains.{Gains}
use Rattle.partition.specs.Rows.{in_row, RowsOf, way_rows, by_way, Neighbours, Used}
use Rattle.partition.proofs.Laws.Gains.{row_at, lowest_in}

-- ---- the targets of a link

-- F has what the relation E reaches from the slots below n
pub Reached : Rel → ℕ → List ℕ → Type 0
Reached E n F = Is F (λ t. any n (λ s. E s t))

pub reached_start : (E : Rel) (F : List ℕ) → Is F (λ t. false) → Reached E 0 F
unfolding Reached any
reached_start E F e = e

pub reached_more : (E : Rel) (n : ℕ) (F F' T : List ℕ) → Is T (E n) → Is F' (λ t. has F t || has T t) → Reached E n F → Reached E (n + 1) F'
unfolding Reached any
reached_more E n F F' T a e h t i = e t i ∙ ap₂ ◌||◌ (h t i) (a t i) ∙ rw add-one (or_comm (any n (λ s. E s t)) (E n t))

pub reached_done : (E : Rel) (n : ℕ) (F : List ℕ) → n ≡ set_slots → Reached E n F → Is F (λ t. any set_slots (λ s. E s t))
unfolding Reached
reached_done E n F e h t i = rw e at (h t i)

module _ (E : Rel) (F : List ℕ) (f : Is F (λ t. any set_slots (λ s. E s t))) where
  pub reached_in : (R : List (List ℕ)) → RowsOf E R → (s t : ℕ) → s < set_slots → t < set_slots → in_row R s t ≡ true → has F t ≡ true
  reached_in R r s t i j e = f t j ∙ any_in set_slots (λ k. E k t) s i (sym (r s t i j) ∙ e)

  -- where nothing is reached, the reverse has no step
  pub nothing_back : (B : List (List ℕ)) → RowsOf (λ s t. false) B → any set_slots (has F) ≡ false → RowsOf (λ s t. E t s) B
  nothing_back B b e s t i j = b s t i j ∙ sym (any_none set_slots _ (sym (f s i) ∙ any_none set_slots (has F) e s i) t j)

  pub some_reached : any set_slots (has F) ≡ any set_slots (λ t. any set_slots (λ s. E s t))
  some_reached = any_cong set_slots _ _ f

-- ---- rows turned round

-- a slot is taken, or not, as r says; the other way where x says so
abbrev other : Bool → Bool → Bool
other x r = cond x (not r) r

below-same : (t n : ℕ) → (t ≡ n → ⊥) → below t n ≡ below t (n + 1)
below-same t n q = both (λ a. below_in t (n + 1) (omega (arith, below_out t n a))) (λ a. below_in t n (omega (arith, below_out t (n + 1) a)))

-- the slots below n are in the rows B of their slots by R, but those of D in those of the others of F
pub record Sourced (R : List (List ℕ)) (F : List ℕ) (n : ℕ) (D : List ℕ) (B : List (List ℕ)) : Type 0 where
  pub low : (t : ℕ) → t < set_slots → has D t ≡ true → t < n
  pub each : RowsOf (λ s t. below t n && other (has D t && has F s) (in_row R t s)) B

pub sourced_start : (R : List (List ℕ)) (F D : List ℕ) (B : List (List ℕ)) → Is D (λ t. false) → RowsOf (λ s t. false) B → Sourced R F 0 D B
sourced_start R F D B d b = record {
  low = λ t h e. clash e (d t h);
  each = λ s t i j. b s t i j ∙ sym (no_true (λ q. absurd (omega (arith, below_out t 0 (and_l _ _ q)))));
}

-- the slots P are taken for the row of n; they are the others where x says so
pub sourced_more : (R : List (List ℕ)) (F : List ℕ) (n : ℕ) (D D' P : List ℕ) (B B' : List (List ℕ)) (x : Bool) (d : List ℕ) → n < set_slots → n < length R
    → Is D' (λ t. has D t || (x && same t n)) → Is P (λ s. other (x && has F s) (has (get_or R n d) s)) → Gains (λ s t. has P s && same t n) B B'
    → Sourced R F n D B → Sourced R F (n + 1) D' B'
sourced_more R F n D D' P B B' x d h m e p g z = record {
  low = λ t i q. either
      (or_out (has D t) _ (sym (e t i) ∙ q))
      (λ a. omega (arith, z.low t i a))
      (λ a. let k : t ≡ n = same_eq (and_r x _ a) in omega arith);
  each = λ s t i j. g.holds s t i j ∙ either
      (equal? t n)
      (λ q. rw (z.each s t i j, q, same_refl n, below-not n n (omega arith), below_in n (n + 1) (omega arith)) (last s i))
      (λ q. rw (z.each s t i j, e t j, ne_same q) (others s t (below-same t n q)));
}
  where
    none : has D n ≡ false
    none = no_true (λ q. absurd (omega (arith, z.low n h q)))

    last : (s : ℕ) → s < set_slots → (has P s && true) ≡ other (has D' n && has F s) (in_row R n s)
    last s i =
        let own : has D' n ≡ x = e n h ∙ rw (none, same_refl n) (and-true x) in
        and-true (has P s) ∙ p s i ∙ ap₂ other (ap (λ (y : Bool). y && has F s) (sym own)) (ap (λ (y : List ℕ). has y s) (row_at R n d m))

    others : (s t : ℕ) → below t n ≡ below t (n + 1)
        → ((below t n && other (has D t && has F s) (in_row R t s)) || (has P s && false)) ≡ (below t (n + 1) && other ((has D t || (x && false)) && has F s) (in_row R t s))
    others s t q = rw (q, and-false (has P s), and-false x, or-false (has D t)) (or-false (below t (n + 1) && other (has D t && has F s) (in_row R t s)))

-- what is taken of a row: the others of F, where the row lies in F; or the row itself
pub others_taken : (A F P : List ℕ) → ((s : ℕ) → s < set_slots → has A s ≡ true → has F s ≡ true) → Is P (λ s. has F s && not (has A s)) → Is P (λ s. other (true && has F s) (has A s))
others_taken A F P w p s i = p s i ∙ cases (has F s) (has A s) (w s i)
  where
    cases : (f a : Bool) → (a ≡ true → f ≡ true) → (f && not a) ≡ other f a
    cases true a h = refl
    cases false true h = h refl
    cases false false h = refl

pub sourced_done : (R : List (List ℕ)) (F : List ℕ) (n : ℕ) (D : List ℕ) (B : List (List ℕ)) → set_slots ≤ n → Sourced R F n D B
    → RowsOf (λ s t. other (has D t && has F s) (in_row R t s)) B
sourced_done R F n D B h z s t i j = z.each s t i j ∙ rw (below_in t n (omega arith))

-- the rows of B have the slots that have them as targets by R; but in those of L the slots of D are still the other way
pub record Mended (R : List (List ℕ)) (D L : List ℕ) (B : List (List ℕ)) : Type 0 where
  pub each : RowsOf (λ s t. other (has D t && has L s) (in_row R t s)) B

pub mended_start : (R : List (List ℕ)) (D F L : List ℕ) (B : List (List ℕ)) → L ≡ F → RowsOf (λ s t. other (has D t && has F s) (in_row R t s)) B → Mended R D L B
mended_start R D F L B e b = record { each = λ s t i j. rw e (b s t i j) }

pub mended_more : (R : List (List ℕ)) (D L L' : List ℕ) (x : ℕ) (B : List (List ℕ)) (d A C V : List ℕ) → Next set_slots L (Some x) L' → x < length B
    → Is A (λ t. has (get_or B x d) t && not (has D t)) → Is C (λ t. has D t && not (has (get_or B x d) t)) → Is V (λ t. has A t || has C t)
    → Mended R D L B → Mended R D L' (set B x V)
mended_more R D L L' x B d A C V n l a c v z = record {
  each = λ s t i j. either
      (equal? s x)
      (λ q. rw (q, get_or-set_same B x V [] l, n.2 x n.0, same_refl x)
      (v t j ∙ ap₂ ◌||◌ (a t j) (c t j) ∙ turned (has D t) (in_row R t x) (has L x) _ (lowest_in x L n.0 n.1)
      (ap (λ (y : List ℕ). has y t) (row_at B x d l) ∙ z.each x t n.0 j)))
      (λ q. rw (get_or-set_other B x s V [] q, n.2 s i, ne_same q, and-true (has L s)) (z.each s t i j));
}
  where
    turned : (y r k b : Bool) → k ≡ true → b ≡ other (y && k) r → ((b && not y) || (y && not b)) ≡ other (y && (k && not true)) r
    turned y r k b h e = rw (e, h) (cases y r)
      where
        cases : (y r : Bool) → ((other (y && true) r && not y) || (y && not (other (y && true) r))) ≡ other (y && (true && not true)) r
        cases true true = refl
        cases true false = refl
        cases false true = refl
        cases false false = refl

pub mended_done : (R : List (List ℕ)) (D L : List ℕ) (B : List (List ℕ)) → any set_slots (has L) ≡ false → Mended R D L B → RowsOf (λ s t. in_row R t s) B
mended_done R D L B e z s t i j = z.each s t i j ∙ rw (any_none set_slots (has L) e s i, and-false (has D t))

-- ---- all links

-- link m leads anywhere
abbrev pub leads : Model → ℕ → Bool
leads M m = any set_slots (λ t. any set_slots (λ s. M.link m s t))

-- R and B are the rows of link m and of its reverse
pub record Joined (M : Model) (m : ℕ) (R B : List (List ℕ)) : Type 0 where
  pub along : RowsOf (M.link m) R
  pub against : RowsOf (λ s t. M.link m t s) B

-- the links below m have their rows in A, and those of their reverses in B, and u says which lead anywhere; the rows of the other reverses are empty
pub record Upto (M : Model) (m : ℕ) (A B : List (List (List ℕ))) (u : List Bool) : Type 0 where
  pub long : (length A ≡ links) × (length B ≡ links) × (length u ≡ links + links)
  pub joined : (k : ℕ) → k < m → Joined M k (way_rows A k) (way_rows B k)
  pub used : (k : ℕ) → k < m → (get_or u k false ≡ leads M k) × (get_or u (k + links) false ≡ leads M k)
  pub empty : (k : ℕ) → m ≤ k → k < links → RowsOf (λ s t. false) (way_rows B k)

pub upto_start : (M : Model) (W A B : List (List (List ℕ))) (u : List Bool) → length A ≡ links → length B ≡ links → length u ≡ links + links → W ≡ A ++ B
    → ((w s t : ℕ) → w < every_way → s < set_slots → t < set_slots → by_way W w s t ≡ false) → Upto M 0 A B u
upto_start M W A B u a b l e h = record {
  long = (a, b, l);
  joined = λ k i. absurd (omega arith);
  used = λ k i. absurd (omega arith);
  empty = λ k _ i s t x y.
      let q : way_rows (A ++ B) (links + k) ≡ way_rows B k = get_or-append_right A B links (links + k) [] a (omega arith) ∙ ap (way_rows B) (omega arith) in
      sym (ap (λ (R : List (List ℕ)). in_row R s t) (ap (λ (X : List (List (List ℕ))). way_rows X (links + k)) e ∙ q)) ∙ h (links + k) s t (omega arith) x y;
}

pub upto_more : (M : Model) (m : ℕ) (A B : List (List (List ℕ))) (u : List Bool) (R S : List (List ℕ)) (v : Bool) → m < links → Joined M m R S → v ≡ leads M m → Upto M m A B u
    → Upto M (m + 1) (set A m R) (set B m S) (set (set u m v) (m + links) v)
upto_more M m A B u R S v h n q z = record {
  long = (length-set A m R ∙ z.long.0, length-set B m S ∙ z.long.1, length-set (set u m v) (m + links) v ∙ length-set u m v ∙ z.long.2);
  joined = λ k l. either
      (equal? k m)
      (λ e. rw (e, get_or-set_same A m R [] (omega (arith, z.long.0)), get_or-set_same B m S [] (omega (arith, z.long.1))) n)
      (λ e. rw (get_or-set_other A m k R [] e, get_or-set_other B m k S [] e) (z.joined k (omega arith)));
  used = λ k l. either
      (equal? k m)
      (λ e. rw e (
        get_or-set_other (set u m v) (m + links) m v false (omega arith) ∙ get_or-set_same u m v false (omega (arith, z.long.2)) ∙ q,
        get_or-set_same (set u m v) (m + links) v false (omega (arith, length-set u m v, z.long.2)) ∙ q,
      ))
      (λ e. (
        get_or-set_other (set u m v) (m + links) k v false (omega arith) ∙ get_or-set_other u m k v false e ∙ (z.used k (omega arith)).0,
        get_or-set_other (set u m v) (m + links) (k + links) v false (omega arith) ∙ get_or-set_other u m (k + links) v false (omega arith) ∙ (z.used k (omega arith)).1,
      ));
  empty = λ k l o. rw (get_or-set_other B m k S [] (omega arith)) (z.empty k (omega arith) o);
}

module _ (M : Model) (m : ℕ) (A B : List (List (List ℕ))) (v : List Bool) (e : m ≡ links) (u : Upto M m A B v) where
  ahead : (w s t : ℕ) → w < links → s < set_slots → t < set_slots → by_way (A ++ B) w s t ≡ step M (way_of w) s t
  unfolding step
  ahead w s t h i j = rw (get_or_append_left A B [] w (omega (arith, u.long.0)), way_along w h) ((u.joined w (omega arith)).along s t i j)

  behind : (w s t : ℕ) → w < links → s < set_slots → t < set_slots → by_way (A ++ B) (w + links) s t ≡ step M (way_of (w + links)) s t
  unfolding step
  behind w s t h i j =
      rw (get_or-append_right A B links (w + links) [] u.long.0 (omega arith), way_against w h)
      (ap (λ (k : ℕ). by_way B k s t) (omega arith) ∙ (u.joined w (omega arith)).against s t i j)

  pub upto_all : Neighbours M (A ++ B)
  unfolding Neighbours
  upto_all w s t hw hs ht =
      either
      (look (below w links))
      (λ a. ahead w s t (below_out w links a) hs ht)
      (λ a.
      let l = not-below w links a in
      let q : w ≡ (w - links) + links = omega arith in
      rw q (behind (w - links) s t (omega arith) hs ht))

  -- some slot is in a row of link w exactly if one is in a row of its reverse
  used_ahead : (w : ℕ) → w < links → leads M w ≡ any set_slots (λ s. any set_slots (by_way (A ++ B) w s))
  unfolding step
  used_ahead w h = both
      (λ q.
      let t = any_out set_slots _ q in
      let s = any_out set_slots _ t.2 in
      any_in set_slots _ s.0 s.1 (any_in set_slots _ t.0 t.1 (ahead w s.0 t.0 h s.1 t.1 ∙ rw (way_along w h) s.2)))
      (λ q.
      let s = any_out set_slots _ q in
      let t = any_out set_slots _ s.2 in
      let e : step M (way_of w) s.0 t.0 ≡ true = sym (ahead w s.0 t.0 h s.1 t.1) ∙ t.2 in
      any_in set_slots _ t.0 t.1 (any_in set_slots _ s.0 s.1 (rw (way_along w h) at e)))

  used_behind : (w : ℕ) → w < links → leads M w ≡ any set_slots (λ s. any set_slots (by_way (A ++ B) (w + links) s))
  unfolding step
  used_behind w h = any_cong set_slots _ _ (λ t i. any_cong set_slots _ _ (λ s j. sym (behind w t s h i j ∙ rw (way_against w h))))

  pub upto_used : Used (A ++ B) v
  upto_used w hw =
      either
      (look (below w links))
      (λ a. let l = below_out w links a in (u.used w (omega arith)).0 ∙ used_ahead w l)
      (λ a.
      let l = not-below w links a in
      let q : w ≡ (w - links) + links = omega arith in
      rw q ((u.used (w - links) (omega arith)).1 ∙ used_behind (w - links) (omega arith)))
