-- Blocks written piece by piece.
use Rattle.std.specs.Prelude.{◌≡◌, refl, List, [], ◌∷◌, true, Ok, Err, ℕ, ◌+◌, ◌-◌, ◌≤◌, ◌<◌, length}
use Rattle.std.proofs.Common.{sym, ◌∙◌, ap, arith}
use Rattle.std.proofs.Math.Option.{Option, none, some as some'}
use Rattle.semantics.specs.Table.{Node, node, Leaf, Unary, Binary, k_true, k_name, k_not, k_and, k_or, leaf, unary, binary, kind_no}
use Rattle.semantics.specs.Block.{Block, old, end, on, join, size, root, emit, nm, no!, ◌&◌, ⟨◌⟩◌}
use Rattle.semantics.proofs.Laws.Emit.{emit-length}
use Rattle.semantics.proofs.Laws.Image.{makes, root-last}
use Rattle.blocks.specs.Write.{put, puts}
use Rattle.blocks.proofs.Laws.Write.{puts_one, puts_then}
use Rattle.limits.specs.Limits.{table_nodes, every_way, true_no, name_no, not_no, or_no, and_no}
use Rattle.through.specs.Through.{neither_nil, free_or_there, closing}
use Rattle.own_conditions.specs.Nodes.{nowhere_nodes, reaches_nodes}
use Rattle.own_conditions.specs.Behind.{PutBehind}

-- the same node by another name
pub put_as : (o : List ℕ) (i : ℕ) {o' : List ℕ} {x y : Node} → o' ≡ put o i x → x ≡ y → o' ≡ put o i y
put_as o i e f = e ∙ ap (put o i) f

-- five nodes, one by one
pub puts_five : (o : List ℕ) (at : ℕ) (v w x y z : Node) {o₁ o₂ o₃ o₄ o₅ : List ℕ} → o₁ ≡ put o at v → o₂ ≡ put o₁ (at + 1) w → o₃ ≡ put o₂ (at + 2) x
    → o₄ ≡ put o₃ (at + 3) y → o₅ ≡ put o₄ (at + 4) z → o₅ ≡ puts o at 0 (v ∷ w ∷ x ∷ y ∷ z ∷ [])
unfolding puts
puts_five o at v w x y z e₁ e₂ e₃ e₄ e₅ = let h : at + 0 ≡ at = omega arith in rw (e₅, e₄, e₃, e₂, e₁, h) refl

-- a node over a block, and over two
puts_on : (o : List ℕ) (at : ℕ) (k : Unary) (p : ℕ) (x : Block)
    → puts o at 0 (emit (on k p x) at) ≡ put (puts o at 0 (emit x at)) (at + size x) (node (kind_no (unary k)) p (root x at) 0)
unfolding emit
puts_on o at k p x = puts_one o at (emit x at) _ ∙ rw (emit-length x at) refl

puts_join : (o : List ℕ) (at : ℕ) (k : Binary) (x y : Block)
    → puts o at 0 (emit (join k x y) at)
    ≡ put (puts (puts o at 0 (emit x at)) (at + size x) 0 (emit y (at + size x))) (at + size x + size y)
    (node (kind_no (binary k)) 0 (root x at) (root y (at + size x)))
unfolding emit
puts_join o at k x y =
    puts_then o at (emit x at) _ ∙ rw (emit-length x at) (puts_one (puts o at 0 (emit x at)) (at + size x) (emit y (at + size x)) _ ∙ rw (emit-length y (at + size x)) refl)

-- a block with a node makes it last
sized-makes : (B : Block) → 0 < size B → makes B ≡ true
unfolding size makes
sized-makes (old i) h = absurd (omega arith)
sized-makes (end k p) h = refl
sized-makes (on k p x) h = refl
sized-makes (join k x y) h = refl

-- ---- the conditions

-- n nil & <E> !
abbrev not_nil : ℕ → Block
not_nil n = no! (⟨ every_way ⟩ (nm n & nm 0))

-- n y <m> & <E>
abbrev reaches : ℕ → ℕ → Block → Block
reaches n m y = ⟨ every_way ⟩ (nm n & (⟨ m ⟩ y))

reaches-nodes : (at n m : ℕ) (k : Leaf) (p : ℕ) → reaches_nodes at n m (node (kind_no (leaf k)) p 0 0) ≡ emit (reaches n m (end k p)) at
unfolding emit root size kind_no
reaches-nodes at n m k p = let h : at + 2 ≡ at + 1 + 1 = omega arith in rw h refl

pub neither_put : (o : List ℕ) (at n1 n2 : ℕ) {o₁ o₂ o₃ : List ℕ} → o₁ ≡ puts o at 0 (nowhere_nodes at (node name_no n1 0 0) (node name_no 0 0 0))
    → o₂ ≡ puts o₁ (at + 5) 0 (nowhere_nodes (at + 5) (node name_no n2 0 0) (node name_no 0 0 0)) → o₃ ≡ put o₂ (at + 10) (node and_no 0 (at + 4) (at + 9))
    → o₃ ≡ puts o at 0 (emit (neither_nil n1 n2) at)
unfolding emit root size kind_no
neither_put o at n1 n2 e₁ e₂ e₃ =
    let h : at + 10 ≡ at + 5 + 5 = omega arith in let g : at + 9 ≡ at + 5 + 4 = omega arith in
    rw (e₃, e₂, e₁, h, g) (sym (puts_join o at k_and (not_nil n1) (not_nil n2)))

pub free-put : (o : List ℕ) (at m n1 n2 : ℕ) {o₁ o₂ o₃ o₄ : List ℕ} → o₁ ≡ puts o at 0 (reaches_nodes at n1 m (node true_no 0 0 0))
    → o₂ ≡ put o₁ (at + 5) (node not_no 0 (at + 4) 0) → o₃ ≡ puts o₂ (at + 6) 0 (reaches_nodes (at + 6) n1 m (node name_no n2 0 0))
    → o₄ ≡ put o₃ (at + 11) (node or_no 0 (at + 5) (at + 10)) → o₄ ≡ puts o at 0 (emit (free_or_there m n1 n2) at)
unfolding root size kind_no
free-put o at m n1 n2 {o₁} {o₂} e₁ e₂ e₃ e₄ =
    let t = reaches n1 m (end k_true 0) in let u = reaches n1 m (nm n2) in
    let h : at + 11 ≡ at + 6 + 5 = omega arith in let g : at + 10 ≡ at + 6 + 4 = omega arith in
    let a : o₁ ≡ puts o at 0 (emit t at) = e₁ ∙ ap (puts o at 0) (reaches-nodes at n1 m k_true 0) in
    let b : o₂ ≡ puts o at 0 (emit (no! t) at) = e₂ ∙ rw a (sym (puts_on o at k_not 0 t)) in
    rw (e₄, e₃, b, h, g, reaches-nodes (at + 6) n1 m k_name n2) (sym (puts_join o at k_or (no! t) u))

-- both
pub link_put : (o : List ℕ) (at m n1 n2 : ℕ) {o₁ o₂ o₃ : List ℕ} → o₁ ≡ puts o at 0 (emit (neither_nil n1 n2) at)
    → o₂ ≡ puts o₁ (at + 11) 0 (emit (free_or_there m n1 n2) (at + 11)) → o₃ ≡ put o₂ (at + 23) (node and_no 0 (at + 10) (at + 22))
    → o₃ ≡ puts o at 0 (emit (neither_nil n1 n2 & free_or_there m n1 n2) at)
unfolding root size kind_no
link_put o at m n1 n2 e₁ e₂ e₃ =
    let h : at + 23 ≡ at + 11 + 12 = omega arith in let g : at + 22 ≡ at + 11 + 11 = omega arith in
    rw (e₃, e₂, e₁, h, g) (sym (puts_join o at k_and (neither_nil n1 n2) (free_or_there m n1 n2)))

-- ---- behind a table

-- none
pub put-none : (c : Option Block) (o : List ℕ) (n : ℕ) → c ≡ none → n ≤ table_nodes → PutBehind (closing n c) n o o (Ok n)
unfolding closing puts
put-none c o n e h = rw e (omega arith, h, refl)

module _ (B : Block) (n : ℕ) (some : 0 < size B) where
  counts : n + length (closing n (some' B)) ≡ n + size B + 1
  unfolding closing size
  counts = omega (arith, emit-length (old (n - 1) & B) n)

  pub put_long : (c : Option Block) (o : List ℕ) {r : ℕ} → c ≡ some' B → r ≡ n + size B + 1 → table_nodes < r → PutBehind (closing n c) n o o (Err (record { 0 = r }))
  put_long c o e er h = rw e (omega (arith, counts), h)

  pub put-closed : (c : Option Block) (o : List ℕ) {o₁ o₂ : List ℕ} {r : ℕ} → c ≡ some' B → r ≡ n + size B + 1 → r ≤ table_nodes → o₁ ≡ puts o n 0 (emit B n)
      → o₂ ≡ put o₁ (n + size B) (node and_no 0 (n - 1) (n + size B - 1)) → PutBehind (closing n c) n o o₂ (Ok r)
  unfolding closing root size kind_no emit puts
  put-closed c o {o₁} {o₂} e er h e₁ e₂ =
      let z : n + 0 ≡ n = omega arith in let r : n + size B - 1 ≡ root B n = omega (arith, root-last B (sized-makes B some) n) in
      let w : o₂ ≡ puts o n 0 (emit (old (n - 1) & B) n) = rw (e₂, e₁, r) (sym (puts_join o n k_and (old (n - 1)) B ∙ rw z refl)) in
      rw e (omega (arith, counts), h, w)
