-- The rounds of a mu or nu: what holds after each evaluation of the body, and that the last set and the sum are those of the loop.
use Rattle.std.specs.Prelude.{◌≡◌, refl, ◌⊎◌, ◌≢◌, List, Option, Bool, not, nat_eq, ℕ, ◌+◌, ◌≤◌, ◌<◌, length, true, false}
use Rattle.std.proofs.Common.{◌∙◌, inl, inr, add-one, ap, arith, sym, subst}
use Rattle.std.specs.Cmp.Lexicographic.{pointwise, same_text, other_text}
use Rattle.std.proofs.lemmas.Bool.{not-false}
use Rattle.finite.specs.Tests.{below}
use Rattle.finite.proofs.Laws.Bools.{either, look, clash}
use Rattle.finite.proofs.Laws.Below.{equal?, below_out, not-below}
use Rattle.finite.specs.Bytes.{Bytes}
use Rattle.bitset.specs.Set.{set_bytes, set_slots, has}
use Rattle.bitset.proofs.Laws.Bytes.{same-slots}
use Rattle.limits.specs.Limits.{slots, variables, table_bytes}
use Rattle.semantics.specs.Holds.{Set, put}
use Rattle.semantics.specs.Table.{tree_at}
use Rattle.semantics.proofs.Laws.Monotone.{put_same, put_other}
use Rattle.semantics.specs.FixedPoint.{iter}
use Rattle.semantics.specs.Agree.{◌≐◌}
use Rattle.semantics.proofs.Laws.Agree.{eval-put, iter_rest}
use Rattle.rounds.specs.Count.{loop, enough}
use Rattle.rounds.proofs.Laws.Count.{rounds-put}
use Rattle.rounds.proofs.Laws.Loops.{Counted, counted_start, counted_more, counted_over, counted_done}
use Rattle.site.specs.Site.{site_of}
use Rattle.condition.specs.Bytes.{table_of}
use Rattle.listing_sets.specs.Nodes.{start_of}
use Rattle.listing_sets.specs.Offsets.{set_at}
use Rattle.listing_memo.specs.declared.memo.Memo.{Memo}
use Rattle.listing_memo.specs.Memo.{valuation, Assigned}
use Rattle.listing.specs.Listed.{work_bytes}
use Rattle.listing.specs.Counting.{Within, counted, left_of}
use Rattle.listing.specs.State.{node_set, node_rounds, RightMemo, Evaluable, Evaluated, Over}
use Rattle.listing.proofs.Laws.Counting.{within_none, counted_none, within_less, counted-left, within_rest, usual_rest, counted_round, within_round, round_within}
use Rattle.listing.proofs.Laws.Memo.{set_agrees, number_agrees, moved, right_rest, right_whole}

-- sets of which the code compares the bytes
module _ (A B : List ℕ) {q : Bool} (e : q ≡ pointwise nat_eq A B) where
  pub same_bytes : q ≡ true → has A ≐ has B
  same_bytes t s h = ap (λ (S : List ℕ). has S s) (same_text A B (sym t ∙ e))

  pub other_bytes : length A ≡ set_bytes → Bytes A → length B ≡ set_bytes → Bytes B → q ≡ false → ¬ (has A ≐ has B)
  unfolding slots
  other_bytes la fa lb fb f h = other_text A B (sym f ∙ e) (same-slots set_bytes A B la lb fa fb h)

≤-or-> : (m n : ℕ) → (m ≤ n) ⊎ (n < m)
≤-or-> m n = either (look (below n m)) (λ e. inr (below_out n m e)) (λ e. inl (not-below n m e))

module _ (site S : List ℕ) (memo : Memo) (x b : ℕ) where
  -- one round: the body's set where the variable x has the set P, and the rounds inside the body
  abbrev pub round : Set → Set
  round P = node_set site S (put (valuation memo) x P) b

  abbrev pub inside : Set → ℕ
  inside P = node_rounds site S (put (valuation memo) x P) b

  round_same : (P Q : Set) → P ≐ Q → round P ≐ round Q
  round_same P Q e = eval-put (site_of site) (tree_at (table_of S) b) (valuation memo) x P Q e

  inside-same : (P Q : Set) → P ≐ Q → inside P ≡ inside Q
  inside-same P Q e = rounds-put (site_of site) (tree_at (table_of S) b) (valuation memo) x P Q e

  -- the rounds of the loop, which starts as a node of kind k does
  abbrev pub loop_rounds : ℕ → ℕ
  loop_rounds k = loop enough round inside (start_of k)

-- after some evaluations of the body: of the variables only x has moved; the set is that of the rounds, and if it did not move, a further round
-- gives it back; the sum is that of the rounds made, which are within the limit
pub record Rounds (site S : List ℕ) (memo₀ memo : Memo) (work : List ℕ) (limit : Option ℕ) (k x b : ℕ) (set : List ℕ) (rounds total : ℕ) (moved : Bool) : Type 0 where
  pub few : rounds ≤ set_slots + 1
  pub work_size : length work ≡ work_bytes
  pub rest : (v : ℕ) → v ≢ x → valuation memo v ≐ valuation memo₀ v
  pub right : RightMemo site S limit memo work
  pub value : has set ≐ iter rounds (round site S memo₀ x b) (start_of k)
  pub still : moved ≡ false → round site S memo₀ x b (has set) ≐ has set
  pub sum : ℕ
  pub summed : total ≡ counted limit sum
  pub within : Within limit sum
  pub counts : Counted enough (round site S memo₀ x b) (inside site S memo₀ x b) (start_of k) rounds sum (has set) moved

-- and at the head of each round, where the loop goes on with a set whose bytes are known
abbrev pub Looping : (site S : List ℕ) (memo₀ memo : Memo) (work : List ℕ) (limit : Option ℕ) (k x b : ℕ) (set : List ℕ) (rounds total : ℕ) → Type 0
Looping site S memo₀ memo work limit k x b set rounds total =
    Rounds site S memo₀ memo work limit k x b set rounds total true × (length set ≡ set_bytes) × Bytes set

-- a loop that goes on
pub on : {site S : List ℕ} {memo₀ memo : Memo} {work : List ℕ} {limit : Option ℕ} {k x b : ℕ} {set : List ℕ} {rounds total : ℕ} {moved? : Bool}
    → Rounds site S memo₀ memo work limit k x b set rounds total moved? → moved? ≡ true → Rounds site S memo₀ memo work limit k x b set rounds total true
on {site} {S} {memo₀} {memo} {work} {limit} {k} {x} {b} {set} {rounds} {total} r e =
    subst (λ (m : Bool). Rounds site S memo₀ memo work limit k x b set rounds total m) e r

-- and one that is over, after some rounds
pub record Ended (site S : List ℕ) (memo₀ memo : Memo) (work : List ℕ) (limit : Option ℕ) (k x b : ℕ) (set : List ℕ) (total : ℕ) : Type 0 where
  pub rounds : ℕ
  pub moved : Bool
  pub reached : Rounds site S memo₀ memo work limit k x b set rounds total moved
  pub out : (moved ≡ false) ⊎ (set_slots + 1 ≤ rounds)

pub rounds-none : {site S work : List ℕ} {memo : Memo} {limit : Option ℕ} {k x b : ℕ} {set : List ℕ} → Evaluable site S limit memo work → has set ≐ start_of k
    → Rounds site S memo memo work limit k x b set 0 0 true
unfolding iter
rounds-none {site} {S} {memo = memo} {limit} {k} {x} {b} {set} r e =
    record {
      few = omega arith;
      work_size = r.work_size;
      rest = λ v n s h. refl;
      right = r.right;
      value = e;
      still = λ q. clash refl q;
      sum = 0;
      summed = sym (counted_none limit);
      within = within_none limit;
      counts = counted_start enough _ _ (start_of k) (round_same site S memo x b) (inside-same site S memo x b) (has set) e;
    }

module _ {site S : List ℕ} {memo₀ memo : Memo} {work : List ℕ} {limit : Option ℕ} {k x b : ℕ} {set : List ℕ} {rounds total : ℕ} {moved? : Bool}
    (R : Rounds site S memo₀ memo work limit k x b set rounds total moved?) where
  -- the body's call: the variable has the set
  module _ {memo₁ : Memo} (go : moved? ≡ true) (a : Assigned memo memo₁ x (has set)) where
    pub assigned : {work₀ : List ℕ} → length S ≤ table_bytes → Evaluable site S limit memo₀ work₀ → x < variables → Evaluable site S (left_of limit total) memo₁ work
    assigned short e hx =
        record {
          usual = usual_rest limit total e.usual;
          work_size = R.work_size;
          right = right_rest total limit (moved short hx R.right a);
        }

    value-at : (v : ℕ) → valuation memo₁ v ≐ put (valuation memo₀) x (has set) v
    value-at v s h =
        a.values v s h
        ∙ either
        (equal? v x)
        (λ q. rw q (put_same (valuation memo) x (has set) s ∙ sym (put_same (valuation memo₀) x (has set) s)))
        (λ q. put_other (valuation memo) (has set) s q ∙ R.rest v q s h ∙ sym (put_other (valuation memo₀) (has set) s q))

    here : Counted enough (round site S memo₀ x b) (inside site S memo₀ x b) (start_of k) rounds R.sum (has set) true
    here =
        subst (λ (m : Bool). Counted enough (round site S memo₀ x b) (inside site S memo₀ x b) (start_of k) rounds R.sum (has set) m) go R.counts

    abbrev inner : ℕ
    inner = inside site S memo₀ x b (has set)

    same-inside : node_rounds site S (valuation memo₁) b ≡ inner
    same-inside = number_agrees site S b (put (valuation memo₀) x (has set)) (valuation memo₁) (λ u _. value-at u)

    -- the round that is under way counts: where the sum with it is over the limit, the loop's rounds are
    module _ (lt : rounds < set_slots + 1) where
      least : R.sum + (1 + inner) ≤ loop_rounds site S memo₀ x b k
      unfolding slots
      least = counted_over enough _ _ (start_of k) (round_same site S memo₀ x b) (inside-same site S memo₀ x b) rounds R.sum (has set) here (omega arith)

      pub inside_over : Over site S (left_of limit total) memo₁ b → ¬ Within limit (loop_rounds site S memo₀ x b k)
      inside_over o w =
          o (within_rest limit R.sum inner R.summed same-inside (within_less limit (R.sum + inner) (loop_rounds site S memo₀ x b k) (omega (arith, least)) w))

      module _ {memo₂ : Memo} {work₂ : List ℕ} {r : ℕ} (v : Evaluated site S (left_of limit total) memo₁ memo₂ work₂ b r) where
        round_sum : total + 1 + r ≡ counted limit R.sum + 1 + counted limit inner
        round_sum =
            let e : r ≡ counted limit inner = v.number ∙ counted-left limit total _ ∙ ap (counted limit) same-inside in
            omega (arith, e, R.summed)

        pub sum_over : ¬ Within limit (total + 1 + r) → ¬ Within limit (loop_rounds site S memo₀ x b k)
        sum_over o w =
            o (rw round_sum (round_within limit R.sum inner (within_less limit (R.sum + (1 + inner)) (loop_rounds site S memo₀ x b k) least w)))

        -- one more evaluation, which made r rounds inside: q says that it gave back its set
        pub rounds_more : {next : List ℕ} {total' : ℕ} {q : Bool} → length work₂ ≡ work_bytes → total' ≡ counted limit (total + 1 + r) → Within limit (total + 1 + r)
            → has next ≐ set_at work₂ b → (q ≡ true → has next ≐ has set) → (q ≡ false → ¬ (has next ≐ has set))
            → Rounds site S memo₀ memo₂ work₂ limit k x b next (rounds + 1) total' (not q)
        unfolding iter slots
        rounds_more {next} {total'} {q} size em wm en eq ne =
            record {
              few = omega arith;
              work_size = size;
              rest = λ u n s h. v.done.values u s h ∙ a.values u s h ∙ put_other (valuation memo) (has set) s n ∙ R.rest u n s h;
              right = right_whole total limit v.done.right;
              value = λ s h.
                  rw (add-one rounds)
                  (is_next s h ∙ round_same site S memo₀ x b (has set) (iter rounds (round site S memo₀ x b) (start_of k)) R.value s h);
              still = λ f s h. round_same site S memo₀ x b (has next) (has set) (eq (not-false q f)) s h ∙ sym (is_next s h);
              sum = R.sum + (1 + inner);
              summed = em ∙ rw round_sum (counted_round limit R.sum inner);
              within = within_round limit R.sum inner (rw (← round_sum) wm);
              counts = counted_more enough _ _ (start_of k) (round_same site S memo₀ x b) (inside-same site S memo₀ x b) rounds R.sum (has set)
                  here (omega arith) (has next) q is_next eq ne;
            }
          where
            is_next : has next ≐ round site S memo₀ x b (has set)
            is_next s h =
                en s h
                ∙ v.done.here s h
                ∙ set_agrees site S b (put (valuation memo₀) x (has set)) (valuation memo₁) (λ u _. value-at u) s h

  -- the evaluations are over: the sum is the loop's rounds
  pub rounds_number : (moved? ≡ false) ⊎ (set_slots + 1 ≤ rounds) → R.sum ≡ loop_rounds site S memo₀ x b k
  unfolding slots
  rounds_number out = counted_done enough _ _ (start_of k) (round_same site S memo₀ x b) (inside-same site S memo₀ x b) rounds R.sum (has set) moved? R.counts out

  -- and the last round's set is that of all rounds
  pub rounds_done : (moved? ≡ false) ⊎ (set_slots + 1 ≤ rounds)
      → round site S memo₀ x b (iter slots (round site S memo₀ x b) (start_of k)) ≐ iter slots (round site S memo₀ x b) (start_of k)
      → has set ≐ iter slots (round site S memo₀ x b) (start_of k)
  unfolding slots
  rounds_done out rests s h =
      let F : Set → Set = round site S memo₀ x b in
      let same = round_same site S memo₀ x b in
      either
      (≤-or-> rounds slots)
      (λ few.
      let stays : moved? ≡ false = either out (λ e. e) (λ m. absurd (omega arith)) in
      R.value s h
      ∙ sym (iter_rest F same (start_of k) rounds
      (λ t u. sym (same (has set) (iter rounds F (start_of k)) R.value t u) ∙ R.still stays t u ∙ R.value t u)
      slots few s h))
      (λ more. R.value s h ∙ iter_rest F same (start_of k) slots rests rounds (omega arith) s h)

  -- the variable has its old set again
  pub restored : {memo₁ : Memo} {P : Set} → Assigned memo memo₁ x P → P ≐ valuation memo₀ x → (v : ℕ) → valuation memo₁ v ≐ valuation memo₀ v
  restored {P = P} a e v s h =
      a.values v s h
      ∙ either
      (equal? v x)
      (λ q. rw q (put_same (valuation memo) x P s ∙ e s h))
      (λ q. put_other (valuation memo) P s q ∙ R.rest v q s h)
