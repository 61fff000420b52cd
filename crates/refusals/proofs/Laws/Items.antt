-- The items one by one: items 1, 15, 16 and 17, two checks one after the other, and the numbers of the items.
use Rattle.std.specs.Prelude.{◌≡◌, refl, List, Bool, true, false, not, cond, ◌≢◌, ℕ, ◌≤◌, ◌<◌, Ok, Err}
use Rattle.std.proofs.Common.{arith}
use Rattle.finite.specs.Tests.{same, below}
use Rattle.finite.proofs.Laws.Bools.{either, look, and_l, and_r}
use Rattle.finite.proofs.Laws.Below.{same_eq, eq_same, ne_same, below_in, below_out, below-not, not-below}
use Rattle.limits.specs.Limits.{slots, every_way, highest_limit}
use Rattle.verdict.proofs.Laws.{refused, number_within, reason_zero}
use Rattle.verdict.specs.Verdict.{Verdict, Accepted, reason_of, ◌then◌}
use Rattle.verdict.specs.declared.Refusal.{Refusal}
use Rattle.verdict.specs.declared.Refusal.TheVariants.{BufferLength, Rounds, Limit, Start}
use Rattle.semantics.specs.Holds.{Model}
use Rattle.semantics.specs.Edit.{Edit}
use Rattle.semantics.specs.Table.{Node}
use Rattle.semantics.specs.Block.{Pass}
use Rattle.rewriting.specs.Refusal.{is_too_long, length_verdict}
use Rattle.refusals.specs.Refusal.{last_item, buffer_verdict, limit_verdict, rounds_verdict, start_is_fit, start_verdict}

-- ---- item 1

pub buffer_in : {len stated : ℕ} → len ≡ stated → buffer_verdict len stated ≡ Accepted
unfolding buffer_verdict
buffer_in e = rw (eq_same e)

pub buffer_not : {len stated : ℕ} → len ≢ stated → buffer_verdict len stated ≡ Err BufferLength
unfolding buffer_verdict
buffer_not h = rw (ne_same h)

pub buffer_out : (len stated : ℕ) → buffer_verdict len stated ≡ Accepted → len ≡ stated
unfolding buffer_verdict
buffer_out len stated = go (same len stated) refl
  where
    go : (b : Bool) → same len stated ≡ b → cond (not b) (Err BufferLength) Accepted ≡ Accepted → len ≡ stated
    go true e p = same_eq e
    go false e p = refused p

-- ---- items 16 and 15: the number n is over the bound m

not_met : (m n : ℕ) (r : Refusal) → n ≤ m → cond (below m n) (Err r) Accepted ≡ Accepted
not_met m n r h = rw (below-not m n h)

met : (m n : ℕ) (r : Refusal) → m < n → cond (below m n) (Err r) Accepted ≡ Err r
met m n r h = rw (below_in m n h)

not_over : (m n : ℕ) (r : Refusal) → cond (below m n) (Err r) Accepted ≡ Accepted → n ≤ m
not_over m n r e = either (look (below m n)) (λ g. refused (rw g at e)) (λ g. not-below m n g)

pub limit_in : {limit : ℕ} → limit ≤ highest_limit → limit_verdict limit ≡ Accepted
unfolding limit_verdict
limit_in h = not_met _ _ Limit (omega (arith, h))

pub limit_not : {limit : ℕ} → highest_limit < limit → limit_verdict limit ≡ Err Limit
unfolding limit_verdict
limit_not h = met _ _ Limit (omega (arith, h))

pub limit_out : (limit : ℕ) → limit_verdict limit ≡ Accepted → limit ≤ highest_limit
unfolding limit_verdict
limit_out limit e = not_over highest_limit limit Limit e

pub rounds_in : {limit n : ℕ} → n ≤ limit → rounds_verdict limit n ≡ Accepted
unfolding rounds_verdict
rounds_in h = not_met _ _ Rounds (omega (arith, h))

pub rounds-not : {limit n : ℕ} → limit < n → rounds_verdict limit n ≡ Err Rounds
unfolding rounds_verdict
rounds-not h = met _ _ Rounds (omega (arith, h))

pub rounds_out : (limit n : ℕ) → rounds_verdict limit n ≡ Accepted → n ≤ limit
unfolding rounds_verdict
rounds_out limit n e = not_over limit n Rounds e

-- there is no other item to meet
pub rounds_else : (limit n : ℕ) → reason_of (rounds_verdict limit n) ≢ 15 → rounds_verdict limit n ≡ Accepted
unfolding rounds_verdict
rounds_else limit n h = either (look (below limit n)) (λ e. absurd (h (rw e))) (λ e. rw e)

-- ---- item 17

pub record StartFits (M : Model) (way start : ℕ) : Type 0 where
  pub way_fits : way < every_way
  pub start_fits : start < slots
  pub start_present : M.present start ≡ true

pub start_in_lem : (M : Model) (way start : ℕ) → start_is_fit M way start ≡ true → start_verdict M way start ≡ Accepted
unfolding start_verdict
start_in_lem M way start e = rw e

pub start_not : (M : Model) (way start : ℕ) → start_is_fit M way start ≡ false → start_verdict M way start ≡ Err Start
unfolding start_verdict
start_not M way start e = rw e

pub start_out : (M : Model) (way start : ℕ) → start_verdict M way start ≡ Accepted → StartFits M way start
unfolding start_verdict start_is_fit
start_out M way start e =
    either (look (start_is_fit M way start))
    (λ g. let r = and_r (below way every_way) _ g in record {
      way_fits = below_out way every_way (and_l _ _ g);
      start_fits = below_out start slots (and_l _ _ r);
      start_present = and_r (below start slots) _ r;
    })
    (λ g. refused (rw g at e))

-- ---- one check after another

pub then_out : (v w : Verdict) → v then w ≡ Accepted → (v ≡ Accepted) × (w ≡ Accepted)
then_out (Ok _) w e = (refl, e)
then_out (Err r) w e = refused e

-- v is the outcome of the first check: it refuses; it accepts, and u is the outcome of the second
pub then_refused : {a v : Verdict} (b : Verdict) {r : Refusal} → v ≡ a → v ≡ Err r → Err r ≡ a then b
then_refused b j e = rw (← j, e) refl

pub then_next : {a b v u : Verdict} → v ≡ a → v ≡ Accepted → u ≡ b → u ≡ a then b
then_next j e h = rw (← j, e) h

-- ---- items have the numbers 1 to `last_item`, so the reason 0 says that the inputs are accepted

pub record Numbered (v : Verdict) : Type 0 where
  pub to_last : reason_of v ≤ last_item
  pub accepts : reason_of v ≡ 0 → v ≡ Accepted

pub numbered : (v : Verdict) → Numbered v
numbered (Ok _) = record { to_last = omega arith; accepts = λ e. refl }
numbered (Err r) = record { to_last = (number_within r).1; accepts = λ e. (reason_zero (Err r)).0 e }

-- ---- item 14
pub length_out : (pass : Pass) (es : List Edit) (xs : List Node) → length_verdict pass es xs ≡ Accepted → is_too_long pass es xs ≡ false
unfolding length_verdict
length_out pass es xs e = either (look (is_too_long pass es xs)) (λ g. refused (rw g at e)) (λ g. g)
