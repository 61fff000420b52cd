-- The verdict item by item, and what an accepted table has.
use Rattle.std.specs.Prelude.{◌≡◌, List, Bool, true, false, not, cond, ℕ, ◌-◌, ◌/◌, ◌%◌, ◌≤◌, ◌<◌, length, refl, Err}
use Rattle.std.proofs.Common.{ap, arith}
use Rattle.std.proofs.lemmas.Bool.{not-true, not-false}
use Rattle.limits.specs.Limits.{table_nodes, table_bytes}
use Rattle.finite.specs.Tests.{same, below}
use Rattle.finite.proofs.Laws.Bools.{and_in, and_l, and_r}
use Rattle.finite.proofs.Laws.Below.{same_eq, eq_same, below_in, below-not, not-below, any_none, none_any, all_in, all_out}
use Rattle.finite.proofs.Laws.First.{first-none, first_past}
use Rattle.verdict.specs.Verdict.{Accepted, ◌then◌}
use Rattle.verdict.specs.declared.Refusal.{Refusal}
use Rattle.verdict.proofs.Laws.{refused}
use Rattle.verdict.specs.declared.Refusal.TheVariants.{ConditionLength, MalformedNode, EvenRule, FreeVariable}
use Rattle.semantics.specs.Form.{even, closed}
use Rattle.semantics.specs.Table.{Node, tree_at, form_of, nodes_fit, even_table}
use Rattle.condition.specs.Bytes.{table_of, bytes_of}
use Rattle.condition.specs.Refusal.{size_fits, first_unfit, first_uneven, nodes_verdict, even_verdict, closed_verdict, condition_verdict}
use Rattle.condition.proofs.Laws.Bytes.{length_table, length-bytes, table_back_lem}
use Rattle.condition.proofs.Laws.Fits.{none-unfit, fit_none}

-- ---- item 7 and item 9, each both ways

pub size_in : (n : ℕ) → n % 6 ≡ 0 → 6 ≤ n → n ≤ table_bytes → size_fits n ≡ true
unfolding size_fits
size_in n e h l = and_in (eq_same e) (and_in (ap not (below-not n 6 h)) (ap not (below-not table_bytes n l)))

pub size_out : (n : ℕ) → size_fits n ≡ true → (n % 6 ≡ 0) × (6 ≤ n) × (n ≤ table_bytes)
unfolding size_fits
size_out n f =
    let g = and_r (same (n % 6) 0) _ f in
    (same_eq (and_l _ _ f), not-below n 6 (not-true _ (and_l _ _ g)), not-below table_bytes n (not-true _ (and_r (not (below n 6)) _ g)))

abbrev uneven : List ℕ → ℕ → Bool
uneven S i = not (even (tree_at (table_of S) i))

pub none-uneven : (S : List ℕ) → below (first_uneven S) (length (table_of S)) ≡ false → even_table (table_of S) ≡ true
unfolding first_uneven even_table
none-uneven S e =
    let a = first_past (length (table_of S)) (uneven S) (not-below _ _ e) in
    all_in (length (table_of S)) (λ i. even (tree_at (table_of S) i)) (λ i h. not-false _ (any_none (length (table_of S)) (uneven S) a i h))

even-none : (S : List ℕ) → even_table (table_of S) ≡ true → below (first_uneven S) (length (table_of S)) ≡ false
unfolding first_uneven even_table
even-none S f =
    let a =
    none_any (length (table_of S)) (uneven S) (λ i h. ap not (all_out (length (table_of S)) (λ i. even (tree_at (table_of S) i)) f i h)) in
    let e = first-none (length (table_of S)) (uneven S) a in
    below-not _ _ (omega arith)

-- ---- the verdict, item by item

module _ (S : List ℕ) where
  pub missized : size_fits (length S) ≡ false → nodes_verdict S ≡ Err ConditionLength
  unfolding nodes_verdict
  missized e = rw e

  -- node i is the lowest that item 8 is met by; none is
  pub malformed : size_fits (length S) ≡ true → {i : ℕ} → i ≡ first_unfit S → i < length S / 6 → nodes_verdict S ≡ Err (MalformedNode i)
  unfolding nodes_verdict
  malformed e {i} w h = rw (e, ← w, below_in i (length (table_of S)) (omega (arith, length_table S)))

  pub well_formed : size_fits (length S) ≡ true → {i : ℕ} → i ≡ first_unfit S → length S / 6 ≤ i → nodes_verdict S ≡ Accepted
  unfolding nodes_verdict
  well_formed e {i} w h = rw (e, ← w, below-not i (length (table_of S)) (omega (arith, length_table S)))

  pub item_7 : size_fits (length S) ≡ false → condition_verdict S ≡ Err ConditionLength
  unfolding condition_verdict nodes_verdict even_verdict closed_verdict
  item_7 e = rw e refl

  -- neither 7 nor 8 is met
  pub nodes_accepted : nodes_verdict S ≡ Accepted → ((length S % 6 ≡ 0) × (6 ≤ length S) × (length S ≤ table_bytes)) × (nodes_fit 0 (table_of S) ≡ true)
  unfolding nodes_verdict
  nodes_accepted e = let p = chain _ _ _ _ e in (size_out (length S) (not-false _ p.0), none-unfit S p.1)
    where
      chain : (a b : Bool) (r₇ r₈ : Refusal) → cond a (Err r₇) (cond b (Err r₈) Accepted) ≡ Accepted → (a ≡ false) × (b ≡ false)
      chain true b r₇ r₈ p = refused p
      chain false true r₇ r₈ p = refused p
      chain false false r₇ r₈ p = (refl, refl)

  module _ (e₇ : size_fits (length S) ≡ true) where
    pub item_8 : below (first_unfit S) (length (table_of S)) ≡ true → condition_verdict S ≡ Err (MalformedNode (first_unfit S))
    unfolding condition_verdict nodes_verdict even_verdict closed_verdict
    item_8 e = rw (e₇, e) refl

    module _ (e₈ : below (first_unfit S) (length (table_of S)) ≡ false) where
      pub item_9 : below (first_uneven S) (length (table_of S)) ≡ true → condition_verdict S ≡ Err (EvenRule (first_uneven S))
      unfolding condition_verdict nodes_verdict even_verdict closed_verdict
      item_9 e = rw (e₇, e₈, e) refl

      module _ (e₉ : below (first_uneven S) (length (table_of S)) ≡ false) where
        pub item_10 : closed (form_of (table_of S)) ≡ false → condition_verdict S ≡ Err (FreeVariable (length (table_of S) - 1))
        unfolding condition_verdict nodes_verdict even_verdict closed_verdict
        item_10 e = rw (e₇, e₈, e₉, e) refl

        pub no_item : closed (form_of (table_of S)) ≡ true → condition_verdict S ≡ Accepted
        unfolding condition_verdict nodes_verdict even_verdict closed_verdict
        no_item e = rw (e₇, e₈, e₉, e) refl

-- ---- an accepted table meets none of them, and the other way

pub record Sound (S : List ℕ) : Type 0 where
  pub multiple : length S % 6 ≡ 0
  pub some : 6 ≤ length S
  pub few : length S ≤ table_bytes
  pub fits : nodes_fit 0 (table_of S) ≡ true
  pub even_rule : even_table (table_of S) ≡ true
  pub is_closed : closed (form_of (table_of S)) ≡ true

chain : (a b c d : Bool) (r₇ r₈ r₉ r₁₀ : Refusal)
    → cond a (Err r₇) (cond b (Err r₈) Accepted) then cond c (Err r₉) Accepted then cond d (Err r₁₀) Accepted ≡ Accepted
    → (a ≡ false) × (b ≡ false) × (c ≡ false) × (d ≡ false)
chain true b c d r₇ r₈ r₉ r₁₀ e = refused e
chain false true c d r₇ r₈ r₉ r₁₀ e = refused e
chain false false true d r₇ r₈ r₉ r₁₀ e = refused e
chain false false false true r₇ r₈ r₉ r₁₀ e = refused e
chain false false false false r₇ r₈ r₉ r₁₀ e = (refl, refl, refl, refl)

pub accepted_sound : (S : List ℕ) → condition_verdict S ≡ Accepted → Sound S
unfolding condition_verdict nodes_verdict even_verdict closed_verdict
accepted_sound S e =
    let p = chain _ _ _ _ _ _ _ _ e in
    let size = size_out (length S) (not-false _ p.0) in
    record {
      multiple = size.0;
      some = size.1;
      few = size.2;
      fits = none-unfit S p.1;
      even_rule = none-uneven S p.2;
      is_closed = not-false _ p.3;
    }

sound_accepted : (S : List ℕ) → Sound S → condition_verdict S ≡ Accepted
sound_accepted S s =
    no_item S (size_in (length S) s.multiple s.some s.few) (fit_none S s.fits) (even-none S s.even_rule) s.is_closed

-- a table that meets none of the items
pub bytes_accepted : (ys : List Node) → 0 < length ys → length ys ≤ table_nodes → nodes_fit 0 ys ≡ true → even_table ys ≡ true
    → closed (form_of ys) ≡ true → condition_verdict (bytes_of ys) ≡ Accepted
bytes_accepted ys some few f e c =
    let n = length-bytes ys in
    sound_accepted (bytes_of ys)
    (record {
      multiple = omega (arith, n);
      some = omega (arith, n, some);
      few = omega (arith, n, few);
      fits = rw (table_back_lem ys) f;
      even_rule = rw (table_back_lem ys) e;
      is_closed = rw (table_back_lem ys) c;
    })
