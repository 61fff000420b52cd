-- A sheet that takes one link away again and again: each such edit doubles the diamonds and boxes by that link. So a table through k edits
-- has as many nodes as 2 ^ k says, and item 14 is met by small tables and short sheets.
use Rattle.std.specs.Prelude.{◌≡◌, Bool, true, cond, length, get_or, replicate, refl, List, [], ◌∷◌, ◌++◌, false, ℕ, zero, suc, ◌+◌, ◌*◌, ◌^◌, ◌≤◌}
use Rattle.std.proofs.Common.{◌∙◌, sym, ap, add-mul, arith}
use Rattle.std.proofs.Math.Nat.{two-pow-succ}
use Rattle.finite.specs.Tests.{same}
use Rattle.finite.proofs.Laws.Bools.{either, look, clash}
use Rattle.finite.proofs.Laws.Below.{ne_same}
use Rattle.semantics.specs.Form.{Way, along, against, every}
use Rattle.semantics.specs.Edit.{Edit, DT1}
use Rattle.semantics.specs.Table.{kind_no, leaf, unary, binary, kind_of, way_of, Node}
use Rattle.semantics.specs.Block.{Block, old, end, on, join, root, emit, size, cut, keep, change, block_dia, block_box, block_leaf, block, rewrite, rewrite_table, passed, rewrite_sheet}
use Rattle.condition.proofs.Laws.Limits.{each_kind, kind_past}

-- ---- what the nodes of a table, and those that a block makes, count together, where a node counts by its kind and parameter

unfoldable pub total : (ℕ → ℕ → ℕ) → List Node → ℕ
total f [] = 0
total f (x ∷ xs) = f x.kind x.param + total f xs

unfoldable weight : (ℕ → ℕ → ℕ) → Block → ℕ
weight f (old i) = 0
weight f (end k p) = f (kind_no (leaf k)) p
weight f (on k p x) = weight f x + f (kind_no (unary k)) p
weight f (join k x y) = weight f x + (weight f y + f (kind_no (binary k)) 0)

total_append : (f : ℕ → ℕ → ℕ) (xs ys : List Node) → total f (xs ++ ys) ≡ total f xs + total f ys
unfolding total
total_append f [] ys = omega arith
total_append f (x ∷ xs) ys = omega (arith, total_append f xs ys)

emit-total : (f : ℕ → ℕ → ℕ) (B : Block) (b : ℕ) → total f (emit B b) ≡ weight f B
unfolding total emit weight
emit-total f (old i) b = refl
emit-total f (end k p) b = omega arith
emit-total f (on k p x) b = simp (total_append f) (omega (arith, emit-total f x b))
emit-total f (join k x y) b = simp (total_append f) (omega (arith, emit-total f x b, emit-total f y (b + size x)))

module _ (e : Edit) (f g : ℕ → ℕ → ℕ) (h : (k p a b : ℕ) → weight f (block e (kind_of k) p (old a) (old b)) ≡ g k p) where
  rewrite-total : (images : List ℕ) (out xs : List Node) → total f (rewrite e images out xs) ≡ total f out + total g xs
  unfolding rewrite total
  rewrite-total images out [] = omega arith
  rewrite-total images out (x ∷ xs) =
      let B = block e (kind_of x.kind) x.param (old (get_or images x.left 0)) (old (get_or images x.right 0)) in
      omega (
        arith,
        rewrite-total (images ++ (root B (length out) ∷ [])) (out ++ emit B (length out)) xs,
        total_append f out (emit B (length out)),
        emit-total f B (length out),
        h x.kind x.param (get_or images x.left 0) (get_or images x.right 0),
      )

  table_total : (xs : List Node) → total f (rewrite_table e xs) ≡ total g xs
  unfolding rewrite_table total
  table_total xs = omega (arith, rewrite-total [] [] xs)

-- ---- DT1

-- the way is link m or its reverse
unfoldable pub meets : ℕ → Way → Bool
meets m (along l) = same l m
meets m (against l) = same l m
meets m every = false

-- how many nodes more a node becomes
unfoldable pub cost : ℕ → ℕ → ℕ → ℕ
cost m k p = cond (same k 8) (cond (meets m (way_of p)) 8 0) (cond (same k 9) (cond (meets m (way_of p)) 6 0) 0)

module _ (m a b : ℕ) where
  cut_met : (w : Way) → meets m w ≡ true → (n n' : ℕ) × (change (DT1 m a b) w ≡ cut n n')
  unfolding meets change
  cut_met (along l) h = (a, b, rw h refl)
  cut_met (against l) h = (b, a, rw h refl)
  cut_met every h = clash h refl

  kept_unmet : (w : Way) → meets m w ≡ false → change (DT1 m a b) w ≡ keep
  unfolding meets change
  kept_unmet (along l) h = rw h refl
  kept_unmet (against l) h = rw h refl
  kept_unmet every h = refl

  Costs : ℕ → ℕ → ℕ → ℕ → Type 0
  Costs p x y k =
      (weight (λ j q. 1) (block (DT1 m a b) (kind_of k) p (old x) (old y)) ≡ 1 + cost m k p)
      × (weight (cost m) (block (DT1 m a b) (kind_of k) p (old x) (old y)) ≡ 2 * cost m k p)

  dia_costs : (p x y : ℕ) → Costs p x y 8
  unfolding Costs weight block block_dia kind_of kind_no cost same
  dia_costs p x y =
      either
      (look (meets m (way_of p)))
      (λ t. let c = cut_met (way_of p) t in (rw (c.2, t) refl, rw (c.2, t) refl))
      (λ t. let c = kept_unmet (way_of p) t in (rw (c, t) refl, rw (c, t) refl))

  box_costs : (p x y : ℕ) → Costs p x y 9
  unfolding Costs weight block block_box kind_of kind_no cost same
  box_costs p x y =
      either
      (look (meets m (way_of p)))
      (λ t. let c = cut_met (way_of p) t in (rw (c.2, t) refl, rw (c.2, t) refl))
      (λ t. let c = kept_unmet (way_of p) t in (rw (c, t) refl, rw (c, t) refl))

  past_costs : (p x y k : ℕ) → 12 ≤ k → Costs p x y k
  unfolding Costs weight block block_leaf kind_no cost same
  past_costs p x y k h =
      let e8 : same k 8 ≡ false = ne_same {m = k} {n = 8} (λ q. omega arith) in
      let e9 : same k 9 ≡ false = ne_same {m = k} {n = 9} (λ q. omega arith) in
      (rw (kind_past k h, e8, e9) refl, rw (kind_past k h, e8, e9) refl)

  costs : (p x y k : ℕ) → Costs p x y k
  unfolding Costs weight block block_leaf kind_of kind_no cost same
  costs p x y =
      each_kind (Costs p x y) (refl, refl) (refl, refl) (refl, refl) (refl, refl) (refl, refl) (refl, refl) (refl, refl) (refl, refl)
      (dia_costs p x y) (box_costs p x y) (refl, refl) (refl, refl) (past_costs p x y)

  -- one edit: as many nodes more as the table costs, and what it costs is doubled
  total-one : (xs : List Node) → total (λ j q. 1) xs ≡ length xs
  unfolding total
  total-one [] = refl
  total-one (x ∷ xs) = omega (arith, total-one xs)

  total_more : (xs : List Node) → total (λ j q. 1 + cost m j q) xs ≡ length xs + total (cost m) xs
  unfolding total
  total_more [] = refl
  total_more (x ∷ xs) = omega (arith, total_more xs)

  total_twice : (xs : List Node) → total (λ j q. 2 * cost m j q) xs ≡ 2 * total (cost m) xs
  unfolding total
  total_twice [] = refl
  total_twice (x ∷ xs) = omega (arith, total_twice xs)

  pub one_more : (xs : List Node) → length (rewrite_table (DT1 m a b) xs) ≡ length xs + total (cost m) xs
  unfolding Costs
  one_more xs =
      sym (total-one (rewrite_table (DT1 m a b) xs))
      ∙ table_total (DT1 m a b) (λ j q. 1) (λ j q. 1 + cost m j q) (λ k p x y. (costs p x y k).0) xs
      ∙ total_more xs

  pub doubles : (xs : List Node) → total (cost m) (rewrite_table (DT1 m a b) xs) ≡ 2 * total (cost m) xs
  unfolding Costs
  doubles xs =
      table_total (DT1 m a b) (cost m) (λ j q. 2 * cost m j q) (λ k p x y. (costs p x y k).1) xs ∙ total_twice xs

  -- k edits
  pub cost-through : (k : ℕ) (xs : List Node) → total (cost m) (rewrite_sheet (replicate k (DT1 m a b)) xs) ≡ 2 ^ k * total (cost m) xs
  unfolding passed
  cost-through zero xs = omega arith
  cost-through (suc k) xs =
      let s : 2 ^ suc k * total (cost m) xs ≡ 2 ^ k * total (cost m) xs + 2 ^ k * total (cost m) xs =
      ap (λ (n : ℕ). n * total (cost m) xs) (two-pow-succ k) ∙ add-mul (2 ^ k) (2 ^ k) (total (cost m) xs) in
      omega (arith, s, doubles (rewrite_sheet (replicate k (DT1 m a b)) xs), cost-through k xs)

  pub nodes-through : (k : ℕ) (xs : List Node)
      → length (rewrite_sheet (replicate k (DT1 m a b)) xs) + total (cost m) xs ≡ length xs + 2 ^ k * total (cost m) xs
  unfolding passed
  nodes-through zero xs = omega arith
  nodes-through (suc k) xs =
      let s : 2 ^ suc k * total (cost m) xs ≡ 2 ^ k * total (cost m) xs + 2 ^ k * total (cost m) xs =
      ap (λ (n : ℕ). n * total (cost m) xs) (two-pow-succ k) ∙ add-mul (2 ^ k) (2 ^ k) (total (cost m) xs) in
      omega (arith, s, one_more (rewrite_sheet (replicate k (DT1 m a b)) xs), cost-through k xs, nodes-through k xs)
