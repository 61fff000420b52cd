-- The answers of the chain, case by case.
use Rattle.std.specs.Prelude.{◌≡◌, List, Bool, true, false, ℕ, ◌≤◌, ◌<◌, length, refl, replicate, IsOk, IfOk, Option, Some, None, Result, Ok, Err}
use Rattle.std.proofs.Common.{◌∙◌, inl, inr, sym, ap, subst}
use Rattle.finite.proofs.Laws.Below.{below_in, below-not}
use Rattle.bitset.specs.Set.{set_bytes, set_slots, has}
use Rattle.limits.specs.Limits.{slots, every_way}
use Rattle.verdict.specs.Verdict.{Accepted, outcome}
use Rattle.verdict.specs.declared.Refusal.{Refusal}
use Rattle.semantics.specs.Holds.{Model}
use Rattle.semantics.specs.Table.{way_of, form_of}
use Rattle.site.specs.Site.{site_of}
use Rattle.condition.specs.Bytes.{table_of}
use Rattle.listing.specs.Listed.{work_bytes, Listed}
use Rattle.refusals.specs.Refusal.{start_is_fit}
use Rattle.refusals.proofs.Laws.Items.{StartFits}
use Rattle.finite.specs.Bytes.{Bytes}
use Rattle.semantics.specs.Form.{Way}
use Rattle.chains.specs.Chain.{SomeChain}
use Rattle.chains.specs.Given.{ChainGiven}
use Rattle.chaining.specs.Answer.{Answer, SetGiven}
use Rattle.chaining.specs.declared.Ending.TheVariants.{Steps, Reached}
use Rattle.chaining.proofs.Laws.Answer.{answer_goal, set_given}
use Rattle.chain_entry.specs.Refusal.{chain_verdict}
use Rattle.chain_entry.specs.Answer.{found_of, steps_of}
use Rattle.chain_entry.specs.Chaining.{Goal, Gives}
use Rattle.chain_entry.specs.Answered.{Searched, ChainAnswered}
use Rattle.chain_entry.proofs.Laws.Refusal.{chain_accepts}

-- ---- item 17

pub way_unfit : (M : Model) (way start : ℕ) → every_way ≤ way → false ≡ start_is_fit M way start
unfolding start_is_fit
way_unfit M way start h = rw (below-not way every_way h)

module _ (M : Model) (way start : ℕ) (h : way < every_way) where
  pub start_unfit : set_slots ≤ start → false ≡ start_is_fit M way start
  unfolding start_is_fit slots
  start_unfit l = rw (below_in way every_way h, below-not start set_slots l)

  pub start_fit : start < set_slots → {r : Bool} → r ≡ M.present start → r ≡ start_is_fit M way start
  unfolding start_is_fit slots
  start_fit l e = rw (below_in way every_way h, below_in start set_slots l) e

-- the start as the code counts slots
pub start_slot : {M : Model} {way start : ℕ} → StartFits M way start → start < set_slots
unfolding slots
start_slot k = k.start_fits

-- ---- the search, for the condition that lists the goal

module _ {site table : List ℕ} {w : Way} {way start k : ℕ} {goal chain' set' : List ℕ} (l : Listed (site_of site) (form_of (table_of table)) goal k) (e : w ≡ way_of way) where
  pub searched_given : {n : ℕ} → Answer (site_of site) w (λ t. has goal t ≡ true) start (Steps n) chain' → set' ≡ replicate set_bytes 0 → Searched site table way start chain' set' (Some n)
  searched_given {n} a z = inl (record {
    is_found = refl;
    chain = λ ρ. subst (λ v. ChainGiven (site_of site) v (Goal site table ρ) start n chain') e (answer_goal (site_of site) w start chain' (Goal site table ρ) (l.listed ρ) (Steps n) a);
    no_set = z;
  })

  pub searched_reached : {set : List ℕ} → Answer (site_of site) w (λ t. has goal t ≡ true) start (Reached set) chain' → set' ≡ set → length set' ≡ set_bytes → Bytes set' → Searched site table way start chain' set' None
  searched_reached {set} a x y z = inr (record {
    not_found = (refl, refl);
    none = λ ρ. subst (λ v. ¬ SomeChain (site_of site) v (Goal site table ρ) start) e (answer_goal (site_of site) w start chain' (Goal site table ρ) (l.listed ρ) (Reached set) a).none;
    set = subst (λ v. SetGiven (site_of site) v start set') e (set_given a.reached x y z);
    no_chain = a.zeros;
  })

-- ---- the answer

module _ {site table : List ℕ} {way start : ℕ} {chain chain' set set' work work' : List ℕ} {r : Result (Option ℕ) Refusal}
    (v : outcome r ≡ chain_verdict (length chain) (length set) (length work) site table way start) where
  pub answered_searched : {a : Option ℕ} → r ≡ Ok a → IfOk r (Searched site table way start chain' set') → (IsOk r → work' ≡ replicate (length work) 0)
      → ChainAnswered site table way start chain chain' set set' work work' (outcome r) (found_of r) (steps_of r)
  unfolding Gives
  answered_searched e s z = record { verdict = v; left = rw e (record { gives = rw e at s; work_zero = (rw e at z) refl }) }

  pub answered_refused : {q : Refusal} → r ≡ Err q → chain' ≡ replicate (length chain) 0 → set' ≡ replicate (length set) 0
      → work' ≡ replicate (length work) 0 → ChainAnswered site table way start chain chain' set set' work work' (outcome r) (found_of r) (steps_of r)
  unfolding Gives
  answered_refused e x y z = record { verdict = v; left = rw e (record { gives = (x, y, refl, refl); work_zero = z }) }
