-- The word of a node from its children's, kind by kind.
use Rattle.std.specs.Prelude.{◌≡◌, List, Bool, true, false, ◌&&◌, length, get_or, refl, not, ◌||◌, ℕ, zero, suc, ◌+◌, ◌*◌, ◌-◌, ◌^◌, ◌≤◌, ◌<◌}
use Rattle.std.proofs.Common.{◌∙◌, ap, ap₂, arith}
use Rattle.std.specs.Int.Bits.{bit_and, bit_or}
use Rattle.finite.specs.Tests.{same}
use Rattle.finite.proofs.Laws.Bools.{either}
use Rattle.finite.proofs.Laws.Below.{equal?}
use Rattle.finite.proofs.Laws.Bits.{bit-bit_or}
use Rattle.finite.proofs.Laws.Weights.{bit-zero}
use Rattle.limits.specs.Limits.{variables, var_no, not_no, or_no, and_no, dia_no, box_no, mu_no, nu_no, slot_no}
use Rattle.semantics.specs.Form.{Form, occ, even}
use Rattle.semantics.specs.Table.{kind_of, build, atom, one, two, tree_at}
use Rattle.condition.specs.Bytes.{node_at, table_of}
use Rattle.condition.specs.Limits.{param_limit}
use Rattle.condition.proofs.Laws.Limits.{each_kind, kind_past, limit_variable, limit_loop}
use Rattle.condition.proofs.Laws.Fits.{node-tree}
use Rattle.even_rule.specs.Masks.{mask_bits, full_word, bit_of, swap, Shows, Row, Children, Fit}
use Rattle.even_rule.proofs.Laws.Words.{bit-one, bit-swap, bit_rid}

-- ---- the word of a tree, from those of the trees below it

module _ (p : ℕ) (φ ψ : Form) where
  pub shows_none : (k : ℕ) → (k < var_no) → Shows (build (kind_of k) p φ ψ) 0
  unfolding kind_of build atom occ
  shows_none zero h = record { bits = λ b v l. bit-zero (bit_of b v) }
  shows_none (suc zero) h = record { bits = λ b v l. bit-zero (bit_of b v) }
  shows_none (suc (suc zero)) h = record { bits = λ b v l. bit-zero (bit_of b v) }
  shows_none (suc (suc (suc zero))) h = record { bits = λ b v l. bit-zero (bit_of b v) }
  shows_none (suc (suc (suc (suc k)))) h = absurd (omega arith)

  pub shows_slot : (k : ℕ) → slot_no ≤ k → Shows (build (kind_of k) p φ ψ) 0
  unfolding build atom occ
  shows_slot k h = record { bits = λ b v l. rw (kind_past k h) (bit-zero (bit_of b v)) }

  pub shows_var : p < variables → Shows (build (kind_of var_no) p φ ψ) (2 ^ p)
  unfolding kind_of build atom occ
  shows_var h = record { bits = λ b v l. bit-one p b v h l }

  pub shows_not : (m : ℕ) → Shows φ m → Shows (build (kind_of not_no) p φ ψ) (swap m)
  unfolding kind_of build one occ
  shows_not m s = record { bits = λ b v l. bit-swap m b v l ∙ s.bits (not b) v l }

  pub shows_two : (k m n : ℕ) → or_no ≤ k → k ≤ and_no → Shows φ m → Shows ψ n → Shows (build (kind_of k) p φ ψ) (bit_or m n)
  unfolding kind_of build two occ
  shows_two k m n h g s t =
      record {
        bits = λ b v l.
            let e = bit-bit_or m n (bit_of b v) ∙ ap₂ ◌||◌ (s.bits b v l) (t.bits b v l) in
            either (equal? k or_no) (λ q. rw q e) (λ q. rw (let r : k ≡ and_no = omega arith in r) e);
      }

  pub shows_step : (k m : ℕ) → dia_no ≤ k → k ≤ box_no → Shows φ m → Shows (build (kind_of k) p φ ψ) m
  unfolding kind_of build one occ
  shows_step k m h g s =
      record {
        bits = λ b v l.
            let e = s.bits b v l in
            either (equal? k dia_no) (λ q. rw q e) (λ q. rw (let r : k ≡ box_no = omega arith in r) e);
      }

  pub shows_loop : (k m : ℕ) → mu_no ≤ k → k ≤ nu_no → p < variables → Shows φ m
      → Shows (build (kind_of k) p φ ψ) (bit_and (bit_and m (full_word - 2 ^ p)) (full_word - 2 ^ (p + mask_bits)))
  unfolding kind_of build one occ
  shows_loop k m h g small s =
      record {
        bits = λ b v l.
            let e = bit_rid m p b v small l ∙ ap (λ (a : Bool). not (same p v) && a) (s.bits b v l) in
            either (equal? k mu_no) (λ q. rw q e) (λ q. rw (let r : k ≡ nu_no = omega arith in r) e);
      }

  -- the even rule at the node itself
  pub even_other : (k : ℕ) → (k < mu_no) → even (build (kind_of k) p φ ψ) ≡ true
  unfolding kind_of build atom one two even
  even_other =
      each_kind (λ k. k < mu_no → even (build (kind_of k) p φ ψ) ≡ true) (λ h. refl) (λ h. refl) (λ h. refl) (λ h. refl) (λ h. refl) (λ h. refl) (λ h. refl) (λ h. refl) (λ h. refl) (λ h. refl)
      (λ h. absurd (omega arith)) (λ h. absurd (omega arith)) (λ k g h. absurd (omega arith))

  pub even_slot : (k : ℕ) → slot_no ≤ k → even (build (kind_of k) p φ ψ) ≡ true
  unfolding build atom even
  even_slot k h = rw (kind_past k h) refl

  pub even_loop : (k : ℕ) → mu_no ≤ k → k ≤ nu_no → even (build (kind_of k) p φ ψ) ≡ not (occ false p φ)
  unfolding kind_of build one even
  even_loop k h g = either (equal? k mu_no) (λ q. rw q refl) (λ q. rw (let r : k ≡ nu_no = omega arith in r) refl)

-- ---- the word of node i, from those of its children

-- the parameters that are variables, by the kind's number
pub var_few : {k q p : ℕ} → q ≡ k → var_no ≤ q → q < not_no → p < param_limit (kind_of k) → p < variables
var_few {k} e l g few = rw (limit_variable (let r : k ≡ var_no = omega arith in r)) at few

pub loop_few : {k q p : ℕ} → q ≡ k → mu_no ≤ q → q ≤ nu_no → p < param_limit (kind_of k) → p < variables
loop_few {k} e l g few = rw (limit_loop k (omega arith) (omega arith)) at few

module _ {S words : List ℕ} {i k : ℕ} (f : Fit S) (h : 6 * i + 6 ≤ length S) (e : k ≡ (node_at S i).kind) (c : Children S words i) where
  shown : (m : ℕ)
      → Shows (build (kind_of k) (node_at S i).param (tree_at (table_of S) (node_at S i).left) (tree_at (table_of S) (node_at S i).right)) m
      → Shows (tree_at (table_of S) i) m
  shown m s = rw (node-tree S f.fits i h, ← e) s

  pub word_none : k < var_no → Shows (tree_at (table_of S) i) 0
  word_none l = shown 0 (shows_none _ _ _ k l)

  pub word_slot : slot_no ≤ k → Shows (tree_at (table_of S) i) 0
  word_slot l = shown 0 (shows_slot _ _ _ k l)

  pub word_var : var_no ≤ k → k < not_no → {p m : ℕ} → p ≡ (node_at S i).param → p < param_limit (kind_of (node_at S i).kind) → m ≡ 2 ^ p
      → Shows (tree_at (table_of S) i) m
  word_var l g {p} ep few em =
      let q : k ≡ var_no = omega arith in
      rw em (shown _ (rw (q, ← ep) (shows_var p _ _ (var_few e l g few))))

  module _ {j : ℕ} (ej : j ≡ (node_at S i).left) where
    below_left : not_no ≤ k → k ≤ nu_no → Row S words j
    below_left l g = rw ej (c.left (omega arith) (omega arith))

    pub word-not : not_no ≤ k → k < or_no → {m : ℕ} → m ≡ swap (get_or words j 0) → Shows (tree_at (table_of S) i) m
    word-not l g em =
        let q : k ≡ not_no = omega arith in
        rw em (shown _ (rw (q, ← ej) (shows_not _ _ _ _ (below_left (omega arith) (omega arith)))))

    pub word_two : or_no ≤ k → k < dia_no → {r : ℕ} → r ≡ (node_at S i).right → Shows (tree_at (table_of S) i) (bit_or (get_or words j 0) (get_or words r 0))
    word_two l g {r} er =
        let right : Row S words r = rw er (c.right (omega arith) (omega arith)) in
        shown _ (rw (← ej, ← er) (shows_two _ _ _ k _ _ l (omega arith) (below_left (omega arith) (omega arith)) right))

    pub word-step : dia_no ≤ k → k < mu_no → Shows (tree_at (table_of S) i) (get_or words j 0)
    word-step l g = shown _ (rw (← ej) (shows_step _ _ _ k _ l (omega arith) (below_left (omega arith) (omega arith))))

    pub word-loop : mu_no ≤ k → k ≤ nu_no → {p m n : ℕ} → p ≡ (node_at S i).param → p < param_limit (kind_of (node_at S i).kind) → m ≡ bit_and (get_or words j 0) (full_word - 2 ^ p)
        → n ≡ bit_and m (full_word - 2 ^ (p + mask_bits)) → Shows (tree_at (table_of S) i) n
    word-loop l g {p} ep few em en =
        rw (en, em) (shown _ (rw (← ej, ← ep) (shows_loop p _ _ k _ l g (loop_few e l g few) (below_left (omega arith) (omega arith)))))
