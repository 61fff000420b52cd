-- The pass: what each visit leaves.
use Rattle.std.specs.Prelude.{◌≡◌, List, ℕ, ◌+◌, ◌*◌, ◌≤◌, ◌<◌, length, get_or, set}
use Rattle.std.proofs.Common.{◌∙◌, subst, arith, length-set, get_or-set_same, get_or-set_other}
use Rattle.std.specs.Int.Bits.{bit_or}
use Rattle.finite.proofs.Laws.Bools.{either}
use Rattle.finite.proofs.Laws.Below.{equal?}
use Rattle.semantics.specs.Table.{tree_at}
use Rattle.condition.specs.Bytes.{node_at, table_of}
use Rattle.condition.proofs.Laws.Limits.{left_lower, right_lower}
use Rattle.condition.proofs.Laws.Fits.{node_fits_lem}
use Rattle.even_rule.specs.Masks.{done_word, Shows, Row, Children, Done, Visitable, Visited}
use Rattle.even_rule.proofs.Laws.Words.{shows_done, some_done}

-- nothing is to do
pub at_rest : {S words : List ℕ} {i c : ℕ} → Visitable S words i → (c < i → Done words c) → Visited S words words i c
at_rest R d = record { size = R.size; right = R.right; kept = λ j e. e; here = d }

-- what a visit leaves is what the next one asks
pub again : {S words words₁ : List ℕ} {i j c : ℕ} → Visitable S words i → Visited S words words₁ j c → Visitable S words₁ i
again R v = record { fit = R.fit; size = v.size; inside = R.inside; right = v.right }

-- a node below i has nodes below it in turn
pub lower : {S words : List ℕ} {i c : ℕ} → Visitable S words i → c < i → Visitable S words c
lower R h = record { fit = R.fit; size = R.size; inside = let n = R.inside in omega arith; right = R.right }

-- both children of node c are visited, and it gets its word
module _ {S words words₁ words₂ : List ℕ} {i c l r : ℕ} (R : Visitable S words i) (h : c < i) (el : l ≡ (node_at S c).left) (er : r ≡ (node_at S c).right)
    (v : Visited S words words₁ c l) (w : Visited S words₁ words₂ c r) where
  inside : 6 * c + 6 ≤ length S
  inside = let n = R.inside in omega arith

  row_of : (j : ℕ) → j < c → Done words₂ j → Row S words₂ j
  row_of j g d = let n = R.inside in w.right j (omega arith) d

  pub children : Children S words₂ c
  children =
      let f = node_fits_lem S R.fit.fits c inside in
      record {
        left = λ a b.
            let g : l < c = rw el (left_lower c (node_at S c) f a b) in
            subst (λ (j : ℕ). Row S words₂ j) el (row_of l g (w.kept l (v.here g)));
        right = λ a b.
            let g : r < c = rw er (right_lower c (node_at S c) f a b) in
            subst (λ (j : ℕ). Row S words₂ j) er (row_of r g (w.here g));
      }

  pub finish : {x : ℕ} → Shows (tree_at (table_of S) c) x → Visited S words (set words₂ c (bit_or x done_word)) i c
  finish {x} s =
      let m = bit_or x done_word in
      let n = R.inside in
      let few = R.fit.few in
      let long : c < length words₂ = omega (arith, w.size) in
      let here : get_or (set words₂ c m) c 0 ≡ m = get_or-set_same words₂ c m 0 long in
      record {
        size = length-set words₂ c m ∙ w.size;
        right = λ j g d.
            either
            (equal? j c)
            (λ q. rw (q, here) (shows_done s))
            (λ q. rw (get_or-set_other words₂ c j m 0 q) (w.right j g (rw (get_or-set_other words₂ c j m 0 q) at d)));
        kept = λ j d.
            either
            (equal? j c)
            (λ q. rw (q, here) (some_done x))
            (λ q. rw (get_or-set_other words₂ c j m 0 q) (w.kept j (v.kept j d)));
        here = λ g. rw here (some_done x);
      }
