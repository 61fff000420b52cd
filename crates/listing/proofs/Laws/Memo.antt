-- What the calls of the evaluator leave.
use Rattle.std.specs.Prelude.{◌≡◌, refl, List, Option, true, false, ℕ, ◌+◌, ◌*◌, ◌≤◌, ◌<◌, length}
use Rattle.std.proofs.Common.{sym, ◌∙◌, ap, ap₂, subst, arith}
use Rattle.std.proofs.Math.Bool.{or-false}
use Rattle.finite.proofs.Laws.Bools.{either, clash, no_true, and_l, and_r, not_out}
use Rattle.finite.proofs.Laws.Below.{equal?, same_refl, ne_same}
use Rattle.limits.specs.Limits.{variables, table_bytes}
use Rattle.semantics.specs.Form.{free}
use Rattle.semantics.specs.Holds.{Set, Env}
use Rattle.semantics.specs.Table.{tree_at}
use Rattle.semantics.proofs.Laws.Monotone.{put_other}
use Rattle.semantics.specs.Agree.{◌≐◌}
use Rattle.semantics.proofs.Laws.Agree.{eval-agree}
use Rattle.rounds.proofs.Laws.Count.{rounds-agree}
use Rattle.site.specs.Site.{site_of}
use Rattle.condition.specs.Bytes.{table_of}
use Rattle.listing_memo.specs.declared.memo.Memo.{Memo}
use Rattle.listing_memo.specs.Memo.{valuation, known, made, Kept, Assigned}
use Rattle.listing_sets.specs.Offsets.{set_at, SetWritten}
use Rattle.listing.specs.Counting.{Within, counted, left_of}
use Rattle.listing.specs.Listed.{work_bytes}
use Rattle.listing.specs.State.{node_set, node_rounds, Right, RightMemo, Evaluable, Done, Evaluated, Over}
use Rattle.listing.proofs.Laws.Counting.{within_none, counted_none, counted-twice, counted_within, within_counted, counted_sum, counted-left, within_sum, within_rest, usual_rest}

-- where every variable that is free in node j has the same slots under two valuations, the node has the same set and the same rounds
module _ (site S : List ℕ) (j : ℕ) (ρ ρ' : Env) (e : (v : ℕ) → free v (tree_at (table_of S) j) ≡ true → ρ' v ≐ ρ v) where
  pub set_agrees : node_set site S ρ' j ≐ node_set site S ρ j
  set_agrees = eval-agree (site_of site) (tree_at (table_of S) j) ρ' ρ e

  pub number_agrees : node_rounds site S ρ' j ≡ node_rounds site S ρ j
  number_agrees = rounds-agree (site_of site) (tree_at (table_of S) j) ρ' ρ e

  right_agrees : {limit : Option ℕ} {n : ℕ} {work : List ℕ} → Right site S limit ρ work j n → Right site S limit ρ' work j n
  right_agrees {limit} r =
      record {
        set = λ s h. r.set s h ∙ sym (set_agrees s h);
        number = r.number ∙ ap (counted limit) (sym number_agrees);
      }

-- a memo that is right stays so under the limit that is left
module _ {site S : List ℕ} {memo : Memo} {work : List ℕ} (n : ℕ) where
  pub right_rest : (limit : Option ℕ) → RightMemo site S limit memo work → RightMemo site S (left_of limit n) memo work
  right_rest limit m =
      record {
        free_right = m.free_right;
        known_right = λ j h k. let r = m.known_right j h k in record { set = r.set; number = r.number ∙ sym (counted-left limit n (node_rounds site S (valuation memo) j)) };
      }

  pub right_whole : (limit : Option ℕ) → RightMemo site S (left_of limit n) memo work → RightMemo site S limit memo work
  right_whole limit m =
      record {
        free_right = m.free_right;
        known_right = λ j h k. let r = m.known_right j h k in record { set = r.set; number = r.number ∙ counted-left limit n (node_rounds site S (valuation memo) j) };
      }

-- the variable x has moved: a node that is still known is one in which x is not free
pub moved : {site S work : List ℕ} {memo memo' : Memo} {limit : Option ℕ} {x : ℕ} {P : Set} → length S ≤ table_bytes → x < variables → RightMemo site S limit memo work
    → Assigned memo memo' x P → RightMemo site S limit memo' work
moved {site} {S} {work} {memo} {memo'} {limit} {x} short hx m a =
    record {
      free_right = λ y j hy h. a.same_free y j hy (omega arith) ∙ m.free_right y j hy h;
      known_right = λ j h k.
          let was = sym (a.known_left j (omega arith)) ∙ k in
          let bound : free x (tree_at (table_of S) j) ≡ false = sym (m.free_right x j hx h) ∙ no_true (not_out _ (and_r (known memo j) _ was)) in
          rw (a.made_left j)
          (right_agrees site S j (valuation memo) (valuation memo')
          (λ v o s q. a.values v s q ∙ put_other (valuation memo) _ s (λ e. clash (subst (λ (u : ℕ). free u (tree_at (table_of S) j) ≡ true) e o) bound))
          (m.known_right j h (and_l _ _ was)));
    }

-- node i's set is written, which changes no other set, and nothing is said of node i
pub finish : {site S work work' : List ℕ} {memo memo' : Memo} {limit : Option ℕ} {i : ℕ} {P : Set} → RightMemo site S limit memo' work
    → ((v : ℕ) → valuation memo' v ≐ valuation memo v) → SetWritten work work' i P → P ≐ node_set site S (valuation memo) i → Done site S limit memo memo' work' i
finish {site} {S} {work' = work'} {memo} {memo'} {i = i} m values w e =
    record {
      right = record {
        free_right = m.free_right;
        known_right = λ j h k.
            let r = m.known_right j h k in
            record {
              set =
                  either
                  (equal? j i)
                  (λ q. subst (λ (n : ℕ). set_at work' n ≐ node_set site S (valuation memo') n) (sym q)
                  (λ s l. w.here s l ∙ e s l ∙ sym (set_agrees site S i (valuation memo) (valuation memo') (λ v _. values v) s l)))
                  (λ q s l. w.others j q s l ∙ r.set s l);
              number = r.number;
            };
      };
      values = values;
      here = λ s l. w.here s l ∙ e s l;
    }

-- node i is known from now on, with the rounds made for it
pub kept : {site S work₁ : List ℕ} {memo memo₁ memo₂ : Memo} {limit : Option ℕ} {i n : ℕ} → length S ≤ table_bytes → 6 * i + 6 ≤ length S
    → Evaluated site S limit memo memo₁ work₁ i n → Kept memo₁ memo₂ i n → Evaluated site S limit memo memo₂ work₁ i n
kept {site} {S} {work₁} {memo} {memo₁} {memo₂} {limit} {i} {n} short hi v k =
    record {
      number = v.number;
      within = v.within;
      done = record {
        right = record {
          free_right = λ y j hy h. k.same_free y j hy (omega arith) ∙ v.done.right.free_right y j hy h;
          known_right = λ j h q.
              either
              (equal? j i)
              (λ s. subst (λ (m : ℕ). Right site S limit (valuation memo₂) work₁ m (made memo₂ m)) (sym s)
              (record {
                set = λ t l. v.done.here t l ∙ sym (set_agrees site S i (valuation memo) (valuation memo₂) (λ v _. values v) t l);
                number = rw (k.made_now i, same_refl i)
                    (v.number ∙ ap (counted limit) (sym (number_agrees site S i (valuation memo) (valuation memo₂) (λ v _. values v))));
              }))
              (λ ne. rw (k.made_now j, ne_same ne)
              (right_agrees site S j (valuation memo₁) (valuation memo₂) (λ v _. k.values v)
              (v.done.right.known_right j h (sym (k.known_now j (omega arith) ∙ rw (ne_same ne) (or-false (known memo₁ j))) ∙ q))));
        };
        values = values;
        here = v.done.here;
      };
    }
  where
    values : (u : ℕ) → valuation memo₂ u ≐ valuation memo u
    values u s h = k.values u s h ∙ v.done.values u s h

-- a node that is known: its set is there already, and its number may be counted again
module _ {site S work : List ℕ} {memo : Memo} {limit : Option ℕ} (i : ℕ) (e : Evaluable site S limit memo work) (h : 6 * i + 6 ≤ length S)
    (k : known memo i ≡ true) where
  right : Right site S limit (valuation memo) work i (made memo i)
  right = e.right.known_right i h k

  pub was_known : {n : ℕ} → n ≡ counted limit (made memo i) → Within limit (made memo i) → Evaluated site S limit memo memo work i n
  was_known q w =
      record {
        number = q ∙ rw right.number (counted-twice limit _);
        within = within_counted limit _ (subst (Within limit) right.number w);
        done = record { right = e.right; values = λ v s p. refl; here = right.set };
      }

  pub known_over : ¬ Within limit (made memo i) → Over site S limit memo i
  known_over o w = o (subst (Within limit) (sym right.number) (counted_within limit _ w))

-- a leaf's set is written
pub leaf_done : {site S work work' : List ℕ} {memo : Memo} {limit : Option ℕ} {i n : ℕ} → Evaluable site S limit memo work
    → SetWritten work work' i (node_set site S (valuation memo) i) → node_rounds site S (valuation memo) i ≡ 0 → n ≡ 0
    → Evaluated site S limit memo memo work' i n
leaf_done {limit = limit} e w none q =
    record {
      number = q ∙ sym (rw none (counted_none limit));
      within = rw none (within_none limit);
      done = finish e.right (λ v s p. refl) w (λ s p. refl);
    }

-- a call, which made a rounds; and the call after it, under the limit that is left
module _ {site S work₁ : List ℕ} {memo memo₁ : Memo} {limit : Option ℕ} {i a : ℕ} (v : Evaluated site S limit memo memo₁ work₁ i a) where
  abbrev first : ℕ
  first = node_rounds site S (valuation memo) i

  -- what the first leaves is what the second asks
  pub again : {work : List ℕ} → Evaluable site S limit memo work → length work₁ ≡ work_bytes → Evaluable site S (left_of limit a) memo₁ work₁
  again e size =
      record {
        usual = usual_rest limit a e.usual;
        work_size = size;
        right = right_rest a limit v.done.right;
      }

  -- the second's rounds, under the memo that was there before the first
  same_second : (j : ℕ) → node_rounds site S (valuation memo₁) j ≡ node_rounds site S (valuation memo) j
  same_second j = number_agrees site S j (valuation memo) (valuation memo₁) (λ u _. v.done.values u)

  pub second_over : (j : ℕ) → Over site S (left_of limit a) memo₁ j
      → ¬ Within limit (node_rounds site S (valuation memo) i + node_rounds site S (valuation memo) j)
  second_over j o w = o (within_rest limit first (node_rounds site S (valuation memo) j) v.number (same_second j) w)

  -- what the second answers and leaves, said of the memo that was there before the first
  module _ {memo₂ : Memo} {work₂ : List ℕ} {j b : ℕ} (w : Evaluated site S (left_of limit a) memo₁ memo₂ work₂ j b) where
    pub both_number : a + b ≡ counted limit (node_rounds site S (valuation memo) i + node_rounds site S (valuation memo) j)
    both_number =
        ap₂ ◌+◌ v.number (w.number ∙ counted-left limit a _ ∙ ap (counted limit) (same_second j)) ∙ counted_sum limit first _

    pub both_within : Within limit (node_rounds site S (valuation memo) i + node_rounds site S (valuation memo) j)
    both_within = within_sum limit first _ v.number (same_second j) v.within w.within

    pub second_done : Done site S limit memo memo₂ work₂ j
    second_done =
        record {
          right = right_whole a limit w.done.right;
          values = λ u s k. w.done.values u s k ∙ v.done.values u s k;
          here = λ s k. w.done.here s k ∙ set_agrees site S j (valuation memo) (valuation memo₁) (λ u _. v.done.values u) s k;
        }

-- the set P that was read from the work buffer after a child's call is the child's set
pub child : {site S work₁ : List ℕ} {memo memo₁ : Memo} {limit : Option ℕ} {l j : ℕ} {P : Set} → Done site S limit memo memo₁ work₁ l → P ≐ set_at work₁ l → l ≡ j
    → P ≐ node_set site S (valuation memo) j
child {site} {S} {memo = memo} {P = P} d e q =
    subst (λ (k : ℕ). P ≐ node_set site S (valuation memo) k) q (λ s h. e s h ∙ d.here s h)
