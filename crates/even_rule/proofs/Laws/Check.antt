-- The checks by the words: item 9, item 10, and the masks that are handed on.
use Rattle.std.specs.Prelude.{◌≡◌, refl, List, Bool, ℕ, ◌+◌, ◌*◌, ◌-◌, ◌/◌, ◌≤◌, ◌<◌, length, get_or, set, true, false, not, ◌||◌}
use Rattle.std.proofs.Common.{sym, ◌∙◌, not-suc-le-zero, arith, get_or-set_same, get_or-set_other, ap, ap₂}
use Rattle.std.proofs.Math.Bool.{not-not}
use Rattle.std.proofs.lemmas.List.{length-replicate}
use Rattle.std.proofs.lemmas.Bool.{not-true}
use Rattle.finite.specs.Tests.{all, bit}
use Rattle.finite.proofs.Laws.Zeros.{zeros_at}
use Rattle.finite.proofs.Laws.Bools.{look, either}
use Rattle.finite.proofs.Laws.Below.{equal?, all_in, all_out, all_cong}
use Rattle.finite.proofs.Laws.Weights.{bit-zero, no_bits}
use Rattle.limits.specs.Limits.{variables, table_nodes, mu_no, nu_no, slot_no}
use Rattle.semantics.specs.Form.{occ, free, closed, even}
use Rattle.semantics.specs.Table.{kind_of, tree_at, form_of}
use Rattle.condition.specs.Bytes.{node_at, table_of}
use Rattle.condition.specs.Limits.{param_limit}
use Rattle.condition.proofs.Laws.Bytes.{length_table}
use Rattle.condition.proofs.Laws.Fits.{node-tree}
use Rattle.even_rule.specs.Free.{FreeRows, no_masks}
use Rattle.even_rule.specs.Masks.{mask_bits, free_bits, Rows, Fit, MasksRight, DoneFrom, Visitable, Visited, United}
use Rattle.even_rule.proofs.Laws.Words.{bit-free, free_few}
use Rattle.even_rule.proofs.Laws.Shows.{even_other, even_slot, even_loop, loop_few}

-- ---- item 9 at a node

module _ {S : List ℕ} (i : ℕ) {k : ℕ} (f : Fit S) (h : 6 * i + 6 ≤ length S) (e : k ≡ (node_at S i).kind) where
  pub keeps_low : k < mu_no → false ≡ not (even (tree_at (table_of S) i))
  keeps_low l = rw (node-tree S f.fits i h, ← e) (sym (ap not (even_other _ _ _ k l)))

  pub keeps_high : slot_no ≤ k → false ≡ not (even (tree_at (table_of S) i))
  keeps_high l = rw (node-tree S f.fits i h, ← e) (sym (ap not (even_slot _ _ _ k l)))

  pub breaks : mu_no ≤ k → k ≤ nu_no → {words : List ℕ} → Rows S words → {j p : ℕ} {r : Bool} → j ≡ (node_at S i).left → j < i
      → p ≡ (node_at S i).param → p < param_limit (kind_of (node_at S i).kind) → r ≡ bit (get_or words j 0) (p + mask_bits)
      → r ≡ not (even (tree_at (table_of S) i))
  breaks l g {words} o {j} {p} ej hj ep few er =
      let at : p + mask_bits ≡ mask_bits + p = omega arith in
      rw (node-tree S f.fits i h, ← e, ← ep, ← ej, even_loop p (tree_at (table_of S) j) (tree_at (table_of S) (node_at S i).right) k l g)
      (er ∙ ap (λ (b : ℕ). bit (get_or words j 0) b) at ∙ (o.node j (omega arith)).bits false p (loop_few e l g few) ∙ sym (not-not (occ false p (tree_at (table_of S) j))))

-- ---- every node is done

pub past_end : {S words : List ℕ} {n : ℕ} → length S < 6 * n + 6 → DoneFrom S words n
past_end e = record { node = λ j h l. absurd (omega arith) }

-- one node more
pub more_done : {S words words' : List ℕ} {i m n : ℕ} → m ≤ i + 1 → i < n → Visited S words words' n i → DoneFrom S words m → DoneFrom S words' i
more_done {i = i} h b v d =
    record { node = λ j g l. either (equal? j i) (λ q. rw q (v.here b)) (λ q. v.kept j (d.node j (omega arith) l)) }

pub all_done : {S words : List ℕ} {i : ℕ} → i ≡ 0 → MasksRight S words → DoneFrom S words i → Rows S words
all_done e g d = record { node = λ j h. g j h (d.node j (omega arith) h) }

-- none is at the start
pub none_done : {S : List ℕ} {i : ℕ} → Fit S → 6 * i ≤ length S → Visitable S no_masks i
none_done {S} f n =
    record {
      fit = f;
      size = length-replicate {A = ℕ} table_nodes 0;
      inside = n;
      right = λ j h d. let z = zeros_at table_nodes j in absurd (omega arith);
    }

-- ---- item 10

module _ {S words : List ℕ} (r : Rows S words) where
  free-at : (j v : ℕ) → 6 * j + 6 ≤ length S → v < variables → bit (free_bits (get_or words j 0)) v ≡ free v (tree_at (table_of S) j)
  unfolding free
  free-at j v h l = bit-free (get_or words j 0) v l ∙ ap₂ ◌||◌ ((r.node j h).bits true v l) ((r.node j h).bits false v l)

  module _ (h : 6 ≤ length S) where
    abbrev last_word : ℕ
    last_word = get_or words (length S / 6 - 1) 0

    same-closed : all variables (λ v. not (bit (free_bits last_word) v)) ≡ closed (form_of (table_of S))
    unfolding closed form_of
    same-closed = rw (length_table S) (all_cong variables _ _ (λ v l. ap not (free-at (length S / 6 - 1) v (omega arith) l)))

    pub last-closed : free_bits last_word ≡ 0 → closed (form_of (table_of S)) ≡ true
    last-closed z = sym same-closed ∙ all_in variables _ (λ v l. rw (z, bit-zero v) refl)

    pub last_open : 0 < free_bits last_word → closed (form_of (table_of S)) ≡ false
    last_open z =
        either
        (look (closed (form_of (table_of S))))
        (λ e.
        let n = no_bits mask_bits (free_bits last_word) (free_few last_word) (λ v l. not-true _ (all_out variables _ (same-closed ∙ e) v l)) in
        absurd (omega arith))
        (λ e. e)

  pub free_rows : {rows : List ℕ} → United words no_masks rows (length S / 6) → FreeRows S rows
  free_rows u =
      record {
        node = λ i v h l.
            let n = length_table S in
            ap (λ (m : ℕ). bit m v) (u.node i (omega arith)) ∙ free-at i v (omega arith) l;
        rest = λ i h. let n = length_table S in u.rest i (omega arith) ∙ zeros_at table_nodes i;
      }

-- ---- loops over masks

pub united_start : {words rows : List ℕ} → United words rows rows 0
united_start = record { node = λ j h. absurd (not-suc-le-zero h); rest = λ j h. refl }

pub united_more : {words rows rows' : List ℕ} {i m : ℕ} → i < length rows' → m ≡ free_bits (get_or words i 0) → United words rows rows' i
    → United words rows (set rows' i m) (i + 1)
united_more {rows' = rows'} {i = i} {m = m} h e u =
    record {
      node = λ j l.
          either
          (equal? j i)
          (λ q. rw (q, get_or-set_same rows' i m 0 h) e)
          (λ q. get_or-set_other rows' i j m 0 q ∙ u.node j (omega arith));
      rest = λ j l. get_or-set_other rows' i j m 0 (λ q. omega arith) ∙ u.rest j (omega arith);
    }
