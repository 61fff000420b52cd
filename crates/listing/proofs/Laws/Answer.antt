-- The answer: the last node's set is that of the slots where the condition holds, and its rounds are those that listing makes, whatever sets
-- the variables have.
use Rattle.std.specs.Prelude.{◌≡◌, refl, ◌↔◌, List, Option, Bool, true, false, not, ℕ, ◌-◌, ◌/◌, ◌<◌, length, take}
use Rattle.std.proofs.Common.{◌∙◌, subst, arith, sym, ap, get_or-take}
use Rattle.std.proofs.Math.Logic.Iff
use Rattle.finite.specs.Tests.{same}
use Rattle.finite.proofs.Laws.Bools.{either, clash, no_true, and_l, and_r, or_out, not_out}
use Rattle.finite.proofs.Laws.Below.{same_eq, below_in, below_out, all_out}
use Rattle.bitset.specs.Set.{has}
use Rattle.limits.specs.Limits.{slots, variables}
use Rattle.semantics.specs.Form.{Form, occ, free, closed}
use Rattle.semantics.specs.Holds.{Env, Model, Holds}
use Rattle.semantics.specs.Table.{k_true, k_here, k_label, k_name, k_var, k_slot, k_not, k_dia, k_box, k_mu, k_nu, k_or, k_and, Kind, leaf, unary, binary, Node, atom, one, two, build, tree_at, form_of, leaf_fits, kind_fits, nodes_fit}
use Rattle.semantics.proofs.Laws.TreeAt.{Subtrees, tree_ind}
use Rattle.semantics.specs.Eval.{eval}
use Rattle.semantics.proofs.Laws.Eval.{eval_table}
use Rattle.semantics.specs.Agree.{◌≐◌}
use Rattle.semantics.proofs.Laws.Agree.{eval-agree}
use Rattle.rounds.specs.Makes.{Makes}
use Rattle.rounds.specs.Count.{rounds}
use Rattle.rounds.proofs.Laws.Count.{rounds-closed}
use Rattle.rounds.proofs.Laws.Exact.{rounds_table}
use Rattle.site.specs.Site.{site_of}
use Rattle.condition.specs.Bytes.{table_of}
use Rattle.condition.proofs.Laws.Bytes.{length_table}
use Rattle.verdict.specs.Verdict.{Accepted}
use Rattle.condition.specs.Refusal.{condition_verdict}
use Rattle.condition.proofs.Laws.Verdict.{Sound, accepted_sound}
use Rattle.even_rule.specs.Free.{FreeRows}
use Rattle.listing_sets.specs.Offsets.{set_at}
use Rattle.listing_memo.specs.declared.memo.Memo.{Memo}
use Rattle.listing_memo.specs.Memo.{valuation, Started}
use Rattle.listing.specs.Listed.{work_bytes}
use Rattle.listing.specs.Counting.{Usual}
use Rattle.listing.specs.State.{Evaluable, Done}

-- each variable of a table's trees is one of the sixteen
FewVariables : Form → Type 0
FewVariables φ = (b : Bool) (v : ℕ) → occ b v φ ≡ true → v < variables

few_variables : (xs : List Node) → nodes_fit 0 xs ≡ true → (i : ℕ) → i < length xs → FewVariables (tree_at xs i)
unfolding FewVariables occ build atom one two Subtrees kind_fits leaf_fits
few_variables xs f = tree_ind FewVariables xs f (λ i x k φ ψ _ _ _ fit _ subtrees. go i x k φ ψ fit subtrees)
  where
    go : (i : ℕ) (x : Node) (k : Kind) (φ ψ : Form) → kind_fits i x k ≡ true → Subtrees FewVariables k φ ψ → FewVariables (build k x.param φ ψ)
    go i x (leaf k_true) φ ψ fit q b v o = clash o refl
    go i x (leaf k_here) φ ψ fit q b v o = clash o refl
    go i x (leaf k_label) φ ψ fit q b v o = clash o refl
    go i x (leaf k_name) φ ψ fit q b v o = clash o refl
    go i x (leaf k_slot) φ ψ fit q b v o = clash o refl
    go i x (leaf k_var) φ ψ fit q b v o = subst (λ (u : ℕ). u < variables) (same_eq (and_r b _ o)) (below_out _ _ (and_l _ _ fit))
    go i x (unary k_not) φ ψ fit q b v o = q (not b) v o
    go i x (unary k_dia) φ ψ fit q b v o = q b v o
    go i x (unary k_box) φ ψ fit q b v o = q b v o
    go i x (unary k_mu) φ ψ fit q b v o = q b v (and_r (not (same x.param v)) _ o)
    go i x (unary k_nu) φ ψ fit q b v o = q b v (and_r (not (same x.param v)) _ o)
    go i x (binary k_or) φ ψ fit q b v o = either (or_out (occ b v φ) _ o) (λ p. q.0 b v p) (λ p. q.1 b v p)
    go i x (binary k_and) φ ψ fit q b v o = either (or_out (occ b v φ) _ o) (λ p. q.0 b v p) (λ p. q.1 b v p)

-- a closed tree has no free variable, so it has one set and one number of rounds under all valuations
none_free : (φ : Form) → FewVariables φ → closed φ ≡ true → (v : ℕ) → free v φ ≡ false
unfolding FewVariables closed free
none_free φ k c v = no_true (λ o. not_out _ (all_out variables _ c v (either (or_out (occ true v φ) _ o) (k true v) (k false v))) o)

-- at the start no node is known
pub none-known : {site S masks work : List ℕ} {memo : Memo} {limit : Option ℕ} {n : ℕ} → Sound S → FreeRows S masks → Started (take n masks) memo n
    → n ≡ length S / 6 → length work ≡ work_bytes → Usual limit → Evaluable site S limit memo work
none-known {S = S} {masks} {n = n} sound f start hn hw g =
    let len = length_table S in
    record {
      usual = g;
      work_size = hw;
      right = record {
        free_right = λ x j hx h.
            start.noted x j hx (omega (arith, sound.few))
            ∙ rw (below_in j n (omega arith), get_or-take n masks j 0 (omega arith)) (f.node j x (omega arith) hx);
        known_right = λ j h k. clash k (start.none_known j (omega (arith, sound.few)));
      };
    }

-- at the end the last node's set is that of the condition, and its rounds are those that listing makes, whatever sets the variables have
module _ {S : List ℕ} {i : ℕ} (sound : Sound S) (e : i ≡ length S / 6 - 1) (M : Model) where
  inside : length (table_of S) - 1 < length (table_of S)
  inside = let n = length_table S in omega (arith, sound.some)

  is_last : i ≡ length (table_of S) - 1
  is_last = let n = length_table S in omega arith

  unbound : (v : ℕ) → free v (tree_at (table_of S) (length (table_of S) - 1)) ≡ false
  unfolding form_of
  unbound = none_free _ (few_variables (table_of S) sound.fits (length (table_of S) - 1) inside) sound.is_closed

  answer_slot : (σ ρ : Env) (s : ℕ) → s < slots → (eval M σ (tree_at (table_of S) i) s ≡ true) ↔ Holds M ρ (form_of (table_of S)) s
  unfolding form_of
  answer_slot σ ρ s h =
      let xs = table_of S in
      let last : ℕ = length xs - 1 in
      let value : eval M σ (tree_at xs i) s ≡ eval M ρ (tree_at xs last) s =
      ap (λ (j : ℕ). eval M σ (tree_at xs j) s) is_last ∙ eval-agree M (tree_at xs last) σ ρ (λ v o. clash o (unbound v)) s h in
      Iff.trans (λ p. sym value ∙ p, λ p. value ∙ p) (eval_table xs sound.fits sound.even_rule last inside M ρ s h)

  pub answer_rounds : (σ ρ : Env) → Makes M ρ (form_of (table_of S)) (rounds M σ (tree_at (table_of S) i))
  unfolding form_of
  answer_rounds σ ρ =
      let xs = table_of S in
      let last : ℕ = length xs - 1 in
      (rounds_table xs sound.fits sound.even_rule last inside M ρ _).1
      (ap (λ (j : ℕ). rounds M σ (tree_at xs j)) is_last ∙ rounds-closed M (tree_at xs last) unbound σ ρ)

-- the set that was read from the work buffer after the last node's call
pub answer : {limit : Option ℕ} {i : ℕ} {site S work' : List ℕ} {memo memo' : Memo} (set' : List ℕ) → Sound S → i ≡ length S / 6 - 1 → Done site S limit memo memo' work' i
    → has set' ≐ set_at work' i → (ρ : Env) (s : ℕ) → s < slots → (has set' s ≡ true) ↔ Holds (site_of site) ρ (form_of (table_of S)) s
answer {site = site} {memo = memo} set' sound e d found ρ s h =
    let value = found s h ∙ d.here s h in
    Iff.trans (λ p. sym value ∙ p, λ p. value ∙ p) (answer_slot sound e (site_of site) (valuation memo) ρ s h)

-- listing an accepted condition makes one number of rounds under all valuations
pub accepted_makes : (M : Model) (S : List ℕ) → condition_verdict S ≡ Accepted → (n : ℕ) × ((ρ : Env) → Makes M ρ (form_of (table_of S)) n)
accepted_makes M S v =
    let none : Env = λ v x. false in
    (rounds M none (tree_at (table_of S) (length S / 6 - 1)), answer_rounds (accepted_sound S v) refl M none)
