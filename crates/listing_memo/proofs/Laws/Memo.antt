-- The memo as it changes: a node that becomes known, a variable that moves, and the start.
use Rattle.std.specs.Prelude.{◌≡◌, refl, ◌≢◌, Bool, true, false, not, ◌&&◌, ◌||◌, List, [], ℕ, ◌+◌, ◌-◌, eqb, ◌/◌, ◌%◌, ◌^◌, ◌≤◌, ◌<◌, get_or, set, length, replicate}
use Rattle.std.proofs.Common.{sym, ◌∙◌, ap, arith, get_or-set_same, get_or-set_other}
use Rattle.std.proofs.Math.Bool.{and-true, and-false, or-false}
use Rattle.std.proofs.lemmas.List.{get_or-replicate, get_or_default}
use Rattle.std.proofs.lemmas.Nat.{pow-add}
use Rattle.std.proofs.Math.Nat.{div-div-eq-div-mul}
use Rattle.finite.proofs.Laws.Weights.{bit-zero}
use Rattle.finite.specs.Tests.{same, below, bit}
use Rattle.finite.proofs.Laws.Bools.{either, look, both}
use Rattle.finite.proofs.Laws.Below.{equal?, same_refl, eq_same, ne_same, below_in, below_out, below-not, not-below}
use Rattle.bitset.specs.Set.{set_slots, has, Holds}
use Rattle.limits.specs.Limits.{variables, table_nodes}
use Rattle.semantics.proofs.Laws.Monotone.{put_same, put_other}
use Rattle.semantics.specs.Agree.{◌≐◌}
use Rattle.listing_memo.specs.declared.memo.Memo.{Memo}
use Rattle.listing_memo.specs.Memo.{variable_has, valuation, known, free_in, Kept, Assigned, Noted, Started}

-- the valuation has the set of each of the variables, and no slot for others
pub valuation_is : (m : Memo) (v : ℕ) → v < variables → (s : ℕ) → valuation m v s ≡ variable_has m v s
unfolding valuation
valuation_is m v h s = rw (below_in v variables h) refl

pub valuation-same : (m m' : Memo) (v : ℕ) → (v < variables → variable_has m' v ≐ variable_has m v) → valuation m' v ≐ valuation m v
unfolding valuation
valuation-same m m' v e s h =
    either (look (below v variables)) (λ q. rw q (e (below_out v variables q) s h)) (λ q. rw q refl)

module _ (m : Memo) where
  -- node j is put in, and its rounds are kept
  pub kept : {K : List ℕ} {j r : ℕ} → j < length m.rounds → Holds table_nodes K (λ k. known m k || same k j)
      → Kept m (record { variables = m.variables; known = K; rounds = set m.rounds j r; free_in = m.free_in }) j r
  unfolding valuation
  kept {K} {j} {r} l e =
      record {
        known_now = e;
        made_now = λ k.
            either
            (equal? k j)
            (λ q. rw (q, same_refl j) (get_or-set_same m.rounds j r 0 l))
            (λ n. rw (ne_same n) (get_or-set_other m.rounds j k r 0 n));
        values = λ v s h. refl;
        same_free = λ y k ly l. refl;
      }

  -- the variable x gets the set S, and the nodes in which it is free are taken out
  pub assigned : (S : List ℕ) {K : List ℕ} {x : ℕ} → x < variables → length m.variables ≡ variables → Holds table_nodes K (λ k. known m k && not (free_in m x k))
      → Assigned m (record { variables = set m.variables x S; known = K; rounds = m.rounds; free_in = m.free_in }) x (has S)
  assigned S {K} {x} hx size e =
      record {
        known_left = e;
        made_left = λ k. refl;
        values = λ v s h.
            either
            (equal? v x)
            (λ q. rw q (valuation_is after x hx s ∙ ap (λ B. has B s) (get_or-set_same m.variables x S [] (omega arith)) ∙ sym (put_same (valuation m) x (has S) s)))
            (λ n. valuation-same m after v (λ l t k. ap (λ B. has B t) (get_or-set_other m.variables x v S [] n)) s h ∙ sym (put_other (valuation m) (has S) s n));
        same_free = λ y k ly l. refl;
      }
    where
      after : Memo
      after = record { variables = set m.variables x S; known = K; rounds = m.rounds; free_in = m.free_in }

-- ---- the start

-- no variable has a slot, and no node is known
pub started-none : (masks E N rounds : List ℕ) → Holds set_slots E (λ s. false) → Holds table_nodes N (λ k. false)
    → Started masks (record { variables = replicate variables E; known = N; rounds = rounds; free_in = replicate variables N }) 0
started-none masks E N rounds e n =
    record {
      noted = λ y k ly l. ap (λ B. has B k) (get_or-replicate variables y N [] ly) ∙ n k l ∙ rw (below-not k 0 (omega arith)) refl;
      none_known = n;
      no_slots = λ v s l h. ap (λ B. has B s) (get_or-replicate variables v E [] l) ∙ e s h;
    }

-- the digit that the code looks at
pub digit_is : (mask x : ℕ) → mask / 2 ^ x % 2 ≡ 1 → bit mask x ≡ true
unfolding bit same
digit_is mask x e = eq_same e

pub digit-not : (mask x : ℕ) → mask / 2 ^ x % 2 ≢ 1 → bit mask x ≡ false
unfolding bit same
digit-not mask x n = ne_same n

-- no digit is left above x
pub none_left : (mask x : ℕ) → mask / 2 ^ x ≡ 0 → (y : ℕ) → x ≤ y → bit mask y ≡ false
unfolding bit
none_left mask x e y h =
    let z : ℕ = y - x in
    let split : y ≡ x + z = omega arith in
    let shifted : mask / 2 ^ y ≡ mask / 2 ^ x / 2 ^ z = ap (λ n. mask / 2 ^ n) split ∙ ap (λ n. mask / n) (pow-add 2 x z) ∙ sym (div-div-eq-div-mul mask (2 ^ x) (2 ^ z)) in
    ap (λ n. eqb (n % 2) 1) (shifted ∙ ap (λ n. n / 2 ^ z) e) ∙ bit-zero z

module _ {m : Memo} {j mask : ℕ} where
  pub noted_none : Noted m m j mask 0
  noted_none =
      record {
        noted = λ y k ly l. rw (below-not y 0 (omega arith), and-false (same k j)) (sym (or-false (free_in m y k)));
        same_known = λ k. refl;
        same_values = λ v s. refl;
      }

  module _ {m' : Memo} {x : ℕ} (n : Noted m m' j mask x) where
    -- of another variable nothing is noted
    others : (y k : ℕ) → y < variables → k < table_nodes → y ≢ x → free_in m' y k ≡ (free_in m y k || (same k j && (below y (x + 1) && bit mask y)))
    others y k ly l ne =
        n.noted y k ly l
        ∙ ap (λ (c : Bool). free_in m y k || (same k j && (c && bit mask y)))
        (both (λ p. below_in y (x + 1) (let q = below_out y x p in omega arith)) (λ p. below_in y x (let q = below_out y (x + 1) p in omega arith)))

    here : (k : ℕ) → x < variables → k < table_nodes → free_in m' x k ≡ free_in m x k
    here k lx l = n.noted x k lx l ∙ rw (below-not x x (omega arith), and-false (same k j)) (or-false (free_in m x k))

    pub noted_skip : bit mask x ≡ false → Noted m m' j mask (x + 1)
    noted_skip e =
        record {
          noted = λ y k ly l.
              either
              (equal? y x)
              (λ q. rw (q, e, and-false (below x (x + 1)), and-false (same k j)) (here k (omega arith) l ∙ sym (or-false (free_in m x k))))
              (λ ne. others y k ly l ne);
          same_known = n.same_known;
          same_values = n.same_values;
        }

    -- the digit is 1, and node j is put into the nodes in which x is free
    pub noted_more : (N d : List ℕ) → length m'.free_in ≡ variables → x < variables → bit mask x ≡ true
        → Holds table_nodes N (λ k. has (get_or m'.free_in x d) k || same k j)
        → Noted m (record { variables = m'.variables; known = m'.known; rounds = m'.rounds; free_in = set m'.free_in x N }) j mask (x + 1)
    noted_more N d size lx e now =
        record {
          noted = λ y k ly l.
              either
              (equal? y x)
              (λ q. rw (q, e, below_in x (x + 1) (omega arith))
              (ap (λ B. has B k) (get_or-set_same m'.free_in x N [] (omega arith))
              ∙ now k l
              ∙ ap (λ (c : Bool). c || same k j) (ap (λ B. has B k) (get_or_default m'.free_in x d [] (omega arith)) ∙ here k lx l)
              ∙ ap (λ (c : Bool). free_in m x k || c) (sym (and-true (same k j)))))
              (λ ne. ap (λ B. has B k) (get_or-set_other m'.free_in x y N [] ne) ∙ others y k ly l ne);
          same_known = n.same_known;
          same_values = n.same_values;
        }

    pub noted_done : ((y : ℕ) → x ≤ y → y < variables → bit mask y ≡ false) → Noted m m' j mask variables
    noted_done none =
        record {
          noted = λ y k ly l.
              n.noted y k ly l
              ∙ ap (λ (c : Bool). free_in m y k || (same k j && c))
              (either (look (below y x))
              (λ p. rw (p, below_in y variables ly) refl)
              (λ p. rw (p, none y (not-below y x p) ly, and-false (below y variables)) refl));
          same_known = n.same_known;
          same_values = n.same_values;
        }

-- one more node's mask
pub started_more : {masks : List ℕ} {m m' : Memo} {j : ℕ} → Started masks m j → Noted m m' j (get_or masks j 0) variables → Started masks m' (j + 1)
started_more {masks} {m} {m'} {j} s n =
    record {
      noted = λ y k ly l.
          n.noted y k ly l
          ∙ rw (s.noted y k ly l, below_in y variables ly)
          (either
          (equal? k j)
          (λ q. rw (q, below-not j j (omega arith), same_refl j, below_in j (j + 1) (omega arith)) refl)
          (λ ne.
          let same_bound : below k (j + 1) ≡ below k j =
          both (λ p. below_in k j (let z = below_out k (j + 1) p in omega arith)) (λ p. below_in k (j + 1) (let z = below_out k j p in omega arith)) in
          rw (ne_same ne, same_bound) (or-false (below k j && bit (get_or masks k 0) y))));
      none_known = λ k l. n.same_known k ∙ s.none_known k l;
      no_slots = λ v t l h. n.same_values v t ∙ s.no_slots v t l h;
    }
