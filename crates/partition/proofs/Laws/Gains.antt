-- Slots put into rows by the passes of a loop.
use Rattle.std.specs.Prelude.{◌≡◌, refl, Bool, true, false, not, ◌&&◌, ◌||◌, Some, List, [], ◌∷◌, ℕ, zero, suc, ◌+◌, ◌≤◌, ◌<◌, length, get_or, set, replicate}
use Rattle.std.proofs.Common.{sym, ◌∙◌, ap, add-one, arith, get_or-set_same, get_or-set_other}
use Rattle.std.proofs.lemmas.List.{get_or-replicate}
use Rattle.std.proofs.Math.Bool.{or-false, and-true, or_comm, or_assoc}
use Rattle.finite.specs.Tests.{same, any, first}
use Rattle.finite.proofs.Laws.Bools.{either, look}
use Rattle.finite.proofs.Laws.Below.{equal?, same_eq, same_refl, ne_same, any_none}
use Rattle.finite.proofs.Laws.First.{first_in, first-none}
use Rattle.bitset.specs.Set.{set_slots, has, Next}
use Rattle.partition.specs.Rows.{row, in_row, RowsOf}
use Rattle.partition.specs.Gains.{Gains}

-- two tests that agree put the same slots in
pub gains_map : {f g : ℕ → ℕ → Bool} {B A : List (List ℕ)} → ((s t : ℕ) → s < set_slots → t < set_slots → f s t ≡ g s t) → Gains f B A → Gains g B A
gains_map {B = B} e h = record { holds = λ s t i j. h.holds s t i j ∙ ap (λ (z : Bool). in_row B s t || z) (e s t i j) }

-- no slot is put in
pub gains_none : {f : ℕ → ℕ → Bool} {B : List (List ℕ)} → ((s t : ℕ) → s < set_slots → t < set_slots → f s t ≡ false) → Gains f B B
gains_none {B = B} h = record { holds = λ s t i j. rw (h s t i j) (sym (or-false (in_row B s t))) }

-- one after the other
pub gains_join : {f g : ℕ → ℕ → Bool} {B A D : List (List ℕ)} → Gains f B A → Gains g A D → Gains (λ s t. f s t || g s t) B D
gains_join {f} {g} {B} h k = record {
  holds = λ s t i j. k.holds s t i j ∙ ap (λ (z : Bool). z || g s t) (h.holds s t i j) ∙ or_assoc (in_row B s t) (f s t) (g s t);
}

-- a row that there is does not depend on what stands for one that there is not
pub row_at : (R : List (List ℕ)) (i : ℕ) (d : List ℕ) → i < length R → get_or R i d ≡ row R i
row_at [] i d h = absurd (omega arith)
row_at (x ∷ xs) zero d h = refl
row_at (x ∷ xs) (suc i) d h = row_at xs i d (omega arith)

-- row i becomes v, which has what row i had, and c
pub gains_put : (B : List (List ℕ)) (i c : ℕ) (d v : List ℕ) → i < length B
    → ((t : ℕ) → t < set_slots → has v t ≡ (has (get_or B i d) t || same t c)) → Gains (λ s t. same s i && same t c) B (set B i v)
gains_put B i c d v l e = record {
  holds = λ s t _ k. either
      (equal? s i)
      (λ q. rw (q, get_or-set_same B i v [] l, same_refl i) (e t k ∙ ap (λ (x : List ℕ). has x t || same t c) (row_at B i d l)))
      (λ n. rw (get_or-set_other B i s v [] n, ne_same n) (sym (or-false (in_row B s t))));
}

-- the first i passes put in what f says of each: at the start, after one more, at the end
pub gains_start : (f : ℕ → ℕ → ℕ → Bool) {B : List (List ℕ)} → Gains (λ s t. any 0 (λ k. f k s t)) B B
unfolding any
gains_start f = gains_none (λ s t _ _. refl)

pub gains_more : (f : ℕ → ℕ → ℕ → Bool) {B A D : List (List ℕ)} (i : ℕ) → Gains (λ s t. any i (λ k. f k s t)) B A → Gains (f i) A D
    → Gains (λ s t. any (i + 1) (λ k. f k s t)) B D
unfolding any
gains_more f i h k = gains_map (λ s t _ _. rw (add-one i) (or_comm (any i (λ n. f n s t)) (f i s t))) (gains_join h k)

pub gains_done : (f : ℕ → ℕ → ℕ → Bool) {B A : List (List ℕ)} (n i : ℕ) → Gains (λ s t. any i (λ k. f k s t)) B A → i ≤ n → n ≤ i
    → Gains (λ s t. any n (λ k. f k s t)) B A
gains_done f n i h l m = rw (let e : n ≡ i = omega arith in e) h

-- rows that are all one empty set are empty, and have then the slots that they gain
pub empty_rows : (S : List ℕ) → ((t : ℕ) → t < set_slots → has S t ≡ false) → RowsOf (λ s t. false) (replicate set_slots S)
empty_rows S e s t i j = rw (get_or-replicate set_slots s S [] i, e t j)

pub gains_empty : {f : ℕ → ℕ → Bool} {S : List ℕ} {A : List (List ℕ)} → ((t : ℕ) → t < set_slots → has S t ≡ false) → Gains f (replicate set_slots S) A → RowsOf f A
gains_empty {f} {S} e h s t i j = h.holds s t i j ∙ ap (λ (z : Bool). z || f s t) (empty_rows S e s t i j)

-- A is B with the slots put in that f says, but for those that g says, which are still to come
pub record Lacks (f g : ℕ → ℕ → Bool) (B A : List (List ℕ)) : Type 0 where
  pub holds : (s t : ℕ) → s < set_slots → t < set_slots → (in_row A s t || g s t) ≡ (in_row B s t || f s t)

-- the lowest slot of a set is in it
pub lowest_in : (x : ℕ) (L : List ℕ) → x < set_slots → x ≡ first set_slots (has L) → has L x ≡ true
lowest_in x L k q =
    let some : any set_slots (has L) ≡ true = either (look (any set_slots (has L))) (λ z. z) (λ z. absurd (omega (arith, q, k, first-none set_slots (has L) z))) in
    rw q (first_in set_slots (has L) some).1

-- slot c is put into the rows of the slots of a set, from the lowest on; those of L are to come
module _ (c : ℕ) where
  pub lacks_start : (S L : List ℕ) (B : List (List ℕ)) → L ≡ S → Lacks (λ s t. has S s && same t c) (λ s t. has L s && same t c) B B
  lacks_start S L B e = record { holds = λ s t _ _. rw e }

  pub lacks_more : {f : ℕ → ℕ → Bool} {B : List (List ℕ)} (A : List (List ℕ)) (L L' : List ℕ) (x : ℕ) (d v : List ℕ) → Next set_slots L (Some x) L' → x < length A
      → ((t : ℕ) → t < set_slots → has v t ≡ (has (get_or A x d) t || same t c)) → Lacks f (λ s t. has L s && same t c) B A
      → Lacks f (λ s t. has L' s && same t c) B (set A x v)
  lacks_more {f} {B} A L L' x d v n l e h = record {
    holds = λ s t i j.
        rw ((gains_put A x c d v l e).holds s t i j, n.2 s i) (moved (in_row A s t) (has L s) (same s x) (same t c) (λ q. rw (same_eq q) (lowest_in x L n.0 n.1)))
        ∙ h.holds s t i j;
  }
    where
      moved : (a y z w : Bool) → (z ≡ true → y ≡ true) → ((a || (z && w)) || ((y && not z) && w)) ≡ (a || (y && w))
      moved true y z w h = refl
      moved false y true w h = rw (h refl) (or-false w)
      moved false y false w h = ap (λ (k : Bool). k && w) (and-true y)

  pub lacks_done : {f : ℕ → ℕ → Bool} {B A : List (List ℕ)} (L : List ℕ) → any set_slots (has L) ≡ false → Lacks f (λ s t. has L s && same t c) B A → Gains f B A
  lacks_done {f} {B} {A} L e h = record {
    holds = λ s t i j. sym (or-false (in_row A s t)) ∙ ap (λ (z : Bool). in_row A s t || z) (rw (any_none set_slots (has L) e s i)) ∙ h.holds s t i j;
  }
