-- A row that passes says what is expected of it; so each row of the table does.
use Rattle.std.specs.Prelude.{◌≡◌, ◌↔◌, List, [], ◌∷◌, true, ◌&&◌, take, ℕ, ◌-◌, ◌<◌, length}
use Rattle.std.proofs.Common.{◌∙◌, arith, sym}
use Rattle.finite.specs.Tests.{same, below, count}
use Rattle.finite.proofs.Laws.Bools.{and_l, and_r, no_true, not_out}
use Rattle.finite.proofs.Laws.Below.{same_eq, below_out}
use Rattle.limits.specs.Limits.{slots}
use Rattle.semantics.specs.Holds.{Env, Model, Holds}
use Rattle.semantics.specs.Table.{Node, tree_at, form_of, nodes_fit, even_table}
use Rattle.semantics.specs.Edit.{Edit, Valid, sheet, sheet_legal, sheet_goes}
use Rattle.semantics.specs.Block.{passed, rewrite_sheet}
use Rattle.semantics.proofs.Laws.Eval.{eval_table}
use Rattle.semantics.specs.FixedPoint.{none}
use Rattle.semantics.proofs.Laws.Edits.{sheet_valid}
use Rattle.semantics.proofs.Laws.Rewrite.{sheet_fits, sheet-some, sheet-even}
use Rattle.rounds.specs.Makes.{Makes}
use Rattle.rounds.proofs.Laws.Count.{same_out}
use Rattle.rounds.proofs.Laws.Exact.{rounds_table}
use Rattle.samples.specs.Site.{each}
use Rattle.samples.specs.Rows.{Slots, has, Expected, lists, stuck_at, odd_at, Row, rows}
use Rattle.samples.specs.Said.{before, after, rewritten, Sound, Lists, Says, AllSaid}
use Rattle.samples.proofs.Laws.Site.{valid_small, small_valid}
use Rattle.samples.proofs.Laws.Quick.{quick_rounds, few_slots, quick-eval, quick-rounds}
use Rattle.samples.proofs.Laws.Pass.{lists_set, today_test, sound_test, through_test, sets_test, counts_test, rounds_test, stuck_test, passes, row_passes, rows_pass}

-- a table that meets neither item 8 nor item 9, on a small site: what is computed of its condition is so
module _ (M : Model) (v : Valid M) (few : few_slots M ≡ true) (xs : List Node) (h : 0 < length xs) (f : nodes_fit 0 xs ≡ true)
    (e : even_table xs ≡ true) where
  -- the set of the slots where it holds
  listed : (S : Slots) → ((ρ : Env) → lists_set M ρ (form_of xs) S ≡ true)
      → (ρ : Env) (s : ℕ) → s < slots → Holds M ρ (form_of xs) s ↔ (has S s ≡ true)
  unfolding lists_set form_of
  listed S p ρ s k =
      let i : ℕ = length xs - 1 in
      let q = sym (quick-eval M v few (tree_at xs i) ρ s) ∙ same_out _ (has S) (p ρ) s k in
      let r = eval_table xs f e i (omega arith) M ρ s k in
      (λ a. sym q ∙ r.1 a, λ a. r.0 (q ∙ a))

  -- the rounds that listing it makes
  made : (n : ℕ) → ((ρ : Env) → same (quick_rounds M ρ (form_of xs)) n ≡ true) → (ρ : Env) → Makes M ρ (form_of xs) n
  unfolding form_of
  made n p ρ =
      let i : ℕ = length xs - 1 in
      (rounds_table xs f e i (omega arith) M ρ n).1 (sym (same_eq (p ρ)) ∙ quick-rounds M v few (tree_at xs i) ρ)

sound_out : (r : Row) → sound_test r ≡ true → Sound r
unfolding sound_test
sound_out r p =
    let a = and_l _ _ p in
    let b = and_r (valid_small r.site && sheet_legal r.edits) _ p in
    record {
      valid = small_valid r.site (and_l _ _ a);
      legal_sheet = and_r (valid_small r.site) _ a;
      some_node = below_out 0 (length r.table) (and_l _ _ b);
      fits = and_l _ _ (and_r (below 0 (length r.table)) _ b);
      is_closed = and_r (nodes_fit 0 r.table) _ (and_r (below 0 (length r.table)) _ b);
    }

-- the set of the rewritten table; through the empty sheet it is the table itself
today : (M : Model) (ρ : Env) (es : List Edit) (xs : List Node) (S : Slots)
    → lists_set (sheet es M) ρ (form_of xs) S ≡ true → today_test M ρ es xs S ≡ true → lists_set M ρ (form_of (rewrite_sheet es xs)) S ≡ true
unfolding today_test sheet passed
today M ρ [] xs S p q = p
today M ρ (e ∷ es) xs S p q = q

lists_out : (r : Row) (S : Slots) (c k a t : ℕ) → Sound r → ((ρ : Env) → passes ρ r (lists S c k a t) ≡ true) → Lists r S c k a t
unfolding passes through_test sets_test counts_test rounds_test
lists_out r S c k a t o p =
    let ρ₀ : Env = λ v. none in
    let b = and_l _ _ (p ρ₀) in
    let few = and_r (sheet_goes r.edits (before r) && even_table r.table) _ b in
    let few_after = and_r (few_slots (before r)) _ few in
    let g = and_l _ _ (and_l _ _ b) in
    let e = and_r (sheet_goes r.edits (before r)) _ (and_l _ _ b) in
    let rest : (ρ : Env) → (counts_test r S c k && rounds_test ρ r a t) ≡ true = λ ρ. and_r (sets_test ρ r S) _ (and_r (through_test r) _ (p ρ)) in
    let n = and_l _ _ (rest ρ₀) in
    let sets : (ρ : Env) → sets_test ρ r S ≡ true = λ ρ. and_l _ _ (and_r (through_test r) _ (p ρ)) in
    let now : (ρ : Env) → lists_set (after r) ρ (form_of r.table) S ≡ true = λ ρ. and_l _ _ (sets ρ) in
    let makes : (ρ : Env) → rounds_test ρ r a t ≡ true = λ ρ. and_r (counts_test r S c k) _ (rest ρ) in
    let l = o.legal_sheet in
    let v = sheet_valid r.edits l (before r) o.valid g in
    let some = sheet-some r.edits l r.table o.fits o.some_node in
    let fits = sheet_fits r.edits l r.table o.fits in
    let evens = sheet-even r.edits l r.table o.fits e in
    record {
      goes_through = g;
      even_rule = e;
      holds_after = listed (after r) v few_after r.table o.some_node o.fits e S now;
      holds_today = listed (before r) o.valid (and_l _ _ few) (rewritten r) some fits evens S
          (λ ρ. today (before r) ρ r.edits r.table S (now ρ) (and_r (lists_set (after r) ρ (form_of r.table) S) _ (sets ρ)));
      makes_after = made (after r) v few_after r.table o.some_node o.fits e a (λ ρ. and_l _ _ (makes ρ));
      makes_today = made (before r) o.valid (and_l _ _ few) (rewritten r) some fits evens t
          (λ ρ. and_r (same (quick_rounds (after r) ρ (form_of r.table)) a) _ (makes ρ));
      slot_count = same_eq (and_l _ _ n);
      node_count = same_eq (and_r (same (count slots (has S)) c) _ n);
    }

says : (r : Row) → Sound r → (x : Expected) → ((ρ : Env) → passes ρ r x ≡ true) → Says r x
unfolding passes stuck_test
says r o (lists S c k a t) p = lists_out r S c k a t o p
says r o (stuck_at w) p =
    let a = p (λ v. none) in
    let b = and_r (below w (length r.edits)) _ a in
    record {
      inside = below_out w (length r.edits) (and_l _ _ a);
      others_go = and_l _ _ b;
      stuck = no_true (not_out _ (and_r (sheet_goes (take w r.edits) (before r)) _ b));
    }
says r o (odd_at w) p =
    let a = p (λ v. none) in
    record {
      inside = below_out w (length r.table) (and_l _ _ a);
      lowest = same_eq (and_r (below w (length r.table)) _ a);
    }

all_said : (rs : List Row) → ((ρ : Env) → each (row_passes ρ) rs ≡ true) → AllSaid rs
unfolding each row_passes
all_said [] p = tt
all_said (r ∷ rs) p =
    let ρ₀ : Env = λ v. none in
    let o = sound_out r (and_l _ _ (and_l _ _ (p ρ₀))) in
    ((o, says r o r.expected (λ ρ. and_r (sound_test r) _ (and_l _ _ (p ρ)))), all_said rs (λ ρ. and_r (row_passes ρ r) _ (p ρ)))

-- each row of the table says what is expected of it
pub samples : AllSaid rows
samples = all_said rows rows_pass
