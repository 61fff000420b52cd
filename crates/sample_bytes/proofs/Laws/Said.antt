-- A row that says what is expected of it returns it over bytes; so each row of the table does.
use Rattle.std.specs.Prelude.{◌≡◌, refl, ◌↔◌, ◌≢◌, List, [], ◌∷◌, true, false, ℕ, suc, ◌<◌, ◌≤◌}
use Rattle.std.proofs.Common.{◌∙◌, arith}
use Rattle.finite.specs.Tests.{same, count}
use Rattle.finite.proofs.Laws.Bools.{either, clash, both, and_l, and_r, or_out}
use Rattle.finite.proofs.Laws.Below.{same_eq, below_out, count_cong}
use Rattle.bitset.specs.Set as bitset
use Rattle.bitset.specs.Set.{Is}
use Rattle.limits.specs.Limits.{slots, table_nodes}
use Rattle.verdict.specs.declared.Refusal.TheVariants.{EvenRule, NotThrough, Rounds}
use Rattle.verdict.specs.Verdict.{Accepted}
use Rattle.semantics.specs.Holds.{Env, Model, Holds}
use Rattle.semantics.specs.Table.{Node, kind_of, atom, build, tree, trees, tree_at, form_of}
use Rattle.semantics.specs.Edit.{Valid}
use Rattle.semantics.proofs.Laws.Edits.{sheet_valid}
use Rattle.semantics.specs.FixedPoint.{none}
use Rattle.rounds.specs.Makes.{Makes}
use Rattle.samples.specs.Site.{some, each}
use Rattle.samples.specs.Rows.{Slots, only, has, Expected, lists, stuck_at, odd_at, Row, table_name, rows}
use Rattle.samples.specs.Said as model
use Rattle.samples.specs.Said.{before, after, rewritten, Sound, Stuck, Odd, Says, AllSaid}
use Rattle.samples.proofs.Laws.Said.{samples}
use Rattle.editions.specs.Edition.{edition_verdict}
use Rattle.sheet.specs.Bytes.{all_in_edition}
use Rattle.site.specs.Site.{site_of}
use Rattle.site.specs.Refusal.{site_verdict}
use Rattle.condition.specs.Bytes.{table_of}
use Rattle.condition.specs.Refusal.{condition_verdict}
use Rattle.refusals.proofs.Laws.Items.{buffer_in, limit_in, rounds-not}
use Rattle.list_entry.specs.Refusal.{list_inputs, list_verdict}
use Rattle.list_entry.specs.Listing.{SiteMakes}
use Rattle.apply_entry.specs.Refusal.{apply_verdict}
use Rattle.rewrite_entry.specs.Refusal.{rewrite_verdict}
use Rattle.demands.specs.Demands.{Runnable, ApplyCall, RewriteCall, ListCall, rewritten_table}
use Rattle.demands.specs.Rounds.{DemandLimitList}
use Rattle.demands.proofs.Laws.Demands.{list_due_lem, listed, apply_reason, site_left, left_accepted, rewrite_reason, written, table_accepted, is_rewritten}
use Rattle.demands.proofs.Laws.Rounds.{not_over, demand_rounds}
use Rattle.sample_bytes.specs.Said.{site_in, table_in, sheet_in, Lists, ListsWithin, Answers, SampleWritten, Returns, ReturnsInEach, AllReturned}
use Rattle.sample_bytes.specs.Refused.{NotApplied, NotRewritten, NotListed}
use Rattle.sample_bytes.proofs.Laws.Write.{bytes_lt}
use Rattle.sample_bytes.proofs.Laws.Refused.{not_applied, not-rewritten, not_listed}
use Rattle.sample_bytes.proofs.Laws.Rows.{some_edition, expected_fits, row_fits, Fits, fits_out, rows_fit}
use Rattle.sample_bytes.proofs.Laws.Judged.{site_read, site_ok, sheet_read, sheet_ok, table_read, table_ok, goes_ok, fits_ok, goes_stuck, table_refused}

-- ---- a set that is listed

no_env : Env
no_env v = none

-- an accepted site, the model M, and an accepted condition xs that holds at the slots of S alone, which are c, and makes n rounds
module _ {site table : List ℕ} (a : site_verdict site ≡ Accepted) (b : condition_verdict table ≡ Accepted) {M : Model} {xs : List Node}
    (site_is : site_of site ≡ M) (table_is : table_of table ≡ xs) (S : Slots) (c n : ℕ)
    (holds : (ρ : Env) (s : ℕ) → s < slots → Holds M ρ (form_of xs) s ↔ (has S s ≡ true)) (size : count slots (has S) ≡ c)
    (makes : (ρ : Env) → Makes M ρ (form_of xs) n) (call : ListCall site table) where
  makes_here : SiteMakes site table n
  makes_here ρ = rw (site_is, table_is) (makes ρ)

  returned : call.reason ≢ 15 → (call.reason ≡ 0) × (call.rounds ≡ n)
  unfolding DemandLimitList
  returned = (demand_rounds.limit_list site table).within (record { site_accepted = a; table_accepted = b }) n makes_here call

  listed_as : call.reason ≢ 15 → Lists call S c n
  unfolding slots
  listed_as h =
      let l = rw (site_is, table_is) at (listed a b call h) in
      let is : Is call.set' (has S) =
      λ s k. both
      (λ p. (holds no_env s k).0 ((l.listed no_env s k).0 p))
      (λ p. (l.listed no_env s k).1 ((holds no_env s k).1 p)) in
      record {
        reason_is = (returned h).0;
        count_is = l.counted ∙ count_cong slots (bitset.has call.set') (has S) is ∙ size;
        rounds_are = (returned h).1;
        set_is = is;
      }

  lists_within : ListsWithin call S c n
  lists_within =
      record {
        within = λ h. listed_as (not_over makes_here call (omega (arith, h)));
        over = λ h. not_listed call Rounds (list_due_lem a b call n makes_here ∙ rounds-not (omega (arith, h)));
      }

-- a condition that is a name lists its place
name_lists : (M : Model) → Valid M → (xs : List Node) (n p : ℕ) (S : Slots)
    → ((ρ : Env) (s : ℕ) → s < slots → Holds M ρ (form_of xs) s ↔ (has S s ≡ true)) → xs ≡ table_name n → S ≡ only (p ∷ []) → M.place n ≡ p
unfolding form_of tree_at trees tree build atom kind_of table_name Holds has some
name_lists M v xs n p S h e d =
    let k : M.place n < slots = v.small (M.place n) (v.named n) in
    let q : has (only (p ∷ [])) (M.place n) ≡ true = rw d at ((h no_env (M.place n) k).0 (rw e refl)) in
    either (or_out (same (M.place n) p) false q) (λ g. same_eq g) (λ g. clash g refl)

-- a row in a known edition that has its edits
module _ (r : Row) (o : Sound r) (f : Fits r) (edition : ℕ) (known : edition_verdict edition ≡ Accepted) (i : all_in_edition edition r.edits ≡ true) where
  -- ---- a row that lists a set

  module _ (S : Slots) (c k a t : ℕ) (l : model.Lists r S c k a t) (few : k ≤ table_nodes) where
    runnable : Runnable edition (site_in r) (table_in r) (sheet_in r)
    runnable =
        record {
          going =
              record {
                edition_accepted = known;
                site_accepted = site_ok r o f;
                sheet_accepted = sheet_ok r o f edition i;
                goes_through = goes_ok r o f edition i l;
              };
          table_accepted = table_ok r o f l;
          table_fits = fits_ok r o f edition i l few;
        }

    valid_after : Valid (after r)
    valid_after = sheet_valid r.edits o.legal_sheet (before r) o.valid l.goes_through

    answers : (applied : ApplyCall edition (site_in r) (sheet_in r)) (rewrote : RewriteCall edition (table_in r) (sheet_in r))
        (today : ListCall (site_in r) (rewritten_table rewrote)) (later : ListCall applied.result' (table_in r))
        → Answers edition r S c k a t applied rewrote today later
    answers applied rewrote today later =
        let left : site_of applied.result' ≡ after r =
        rw (sheet_read r o f edition i, site_read r o f) at (site_left runnable.going applied).effects in
        let made : table_of (rewritten_table rewrote) ≡ rewritten r = rw (sheet_read r o f edition i, table_read r o f) at (is_rewritten runnable rewrote) in
        record {
          applies = apply_reason runnable.going applied;
          site_after = left;
          rewrites = rewrite_reason runnable rewrote;
          nodes_are = (written runnable rewrote).0 ∙ rw (sheet_read r o f edition i, table_read r o f) l.node_count;
          lists_today = lists_within (site_ok r o f) (table_accepted runnable rewrote) (site_read r o f) made
              S _ _ l.holds_today l.slot_count l.makes_today today;
          lists_after = lists_within (left_accepted runnable.going applied) (table_ok r o f l) left (table_read r o f)
              S _ _ l.holds_after l.slot_count l.makes_after later;
          place_after = λ n p e q. rw left (name_lists (after r) valid_after r.table n p S l.holds_after e q);
        }

  -- ---- a row that is refused

  stuck : (w : ℕ) → Stuck r w → (call : ApplyCall edition (site_in r) (sheet_in r)) → NotApplied call 13 w
  unfolding apply_verdict
  stuck w s call = not_applied call (NotThrough w) (rw (buffer_in call.result_size, known, site_ok r o f, sheet_ok r o f edition i) (goes_stuck r o f edition i s))

  module _ (w : ℕ) (d : Odd r w) where
    unlisted : (call : ListCall (site_in r) (table_in r)) → NotListed call 9 w
    unfolding list_verdict list_inputs
    unlisted call =
        not_listed call (EvenRule w)
        (rw (buffer_in call.set_size, buffer_in call.work_size, limit_in call.limit_fits, site_ok r o f, table_refused r o f d))

    unwritten : (call : RewriteCall edition (table_in r) (sheet_in r)) → NotRewritten call 9 w
    unfolding rewrite_verdict
    unwritten call = not-rewritten call (EvenRule w) (rw (buffer_in call.result_size, known, table_refused r o f d))

  returns : (x : Expected) → expected_fits x ≡ true → Says r x → Returns edition r x
  unfolding expected_fits
  returns (lists S c k a t) e l = let h = below_out k (suc table_nodes) e in answers S c k a t l (omega arith)
  returns (stuck_at w) e s = stuck w s
  returns (odd_at w) e d = (unlisted w d, unwritten w d)

row_returns : (r : Row) → Sound r → Fits r → Says r r.expected → SampleWritten r × ReturnsInEach r
unfolding some_edition
row_returns r o f s = (
  record {
    site_is_bytes = bytes_lt (before r) o.valid;
    table_is_bytes = f.table_is_bytes;
    sheet_is_bytes = f.sheet_is_bytes;
    site_read = site_read r o f;
    has_edition = f.has_edition;
  },
  λ edition known i. returns r o f edition known i r.expected f.as_expected s,
)

-- ---- each row

all_returned : (rs : List Row) → each row_fits rs ≡ true → AllSaid rs → AllReturned rs
unfolding each
all_returned [] p s = tt
all_returned (r ∷ rs) p s =
    (row_returns r s.0.0 (fits_out r (and_l _ _ p)) s.0.1, all_returned rs (and_r (row_fits r) _ p) s.1)

pub sample_bytes : AllReturned rows
sample_bytes = all_returned rows rows_fit samples
