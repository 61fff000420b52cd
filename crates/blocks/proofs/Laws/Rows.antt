-- The steps of rows make the nodes of their blocks.
use Rattle.std.specs.Prelude.{◌≡◌, refl, List, [], ◌∷◌, map, ℕ, zero, suc, ◌+◌, ◌<◌, ◌≤◌, min, length, take, get_or, Option, None, Some, ◌&&◌, nat_le, nat_lt, if◌then◌else◌}
use Rattle.std.proofs.Common.{sym, ◌∙◌, ap, ap₂, arith, le-leb, le-ltb}
use Rattle.std.proofs.lemmas.List.{length-map}
use mathlib.Core.List.{map-append}
use Rattle.limits.specs.Limits.{every_way, not_no, or_no, dia_no, slot_no}
use Rattle.semantics.specs.Table.{Node, node, kind_no, kind_of, Kind, leaf, unary, binary, k_not, k_dia, k_box, k_mu, k_nu}
use Rattle.semantics.specs.Block.{Block, old, end, on, join, root, size, emit}
use Rattle.semantics.proofs.Laws.Emit.{emit-length}
use Rattle.condition.proofs.Laws.Limits.{each_kind, kind_past}
use Rattle.spelling.specs.declared.Row.{Row}
use Rattle.spelling.specs.declared.Row.TheVariants.{Cn1Name, AsName, Cn2Name, ApLabel, DpLabel, AsHere, DsHere, DsName, AtDiamond, AtBox, Dt1Diamond, Dt1Box, Dt2Diamond, Dt2Box, Dt2DiamondBack, Dt2BoxBack, DsDiamond, DsBox, RtDiamond, RtBox, RtDiamondBack, RtBoxBack}
use Rattle.spelling.specs.declared.Spelling.{Spelling}
use Rattle.spelling.specs.Rows.{copied, row_block}
use Rattle.spelling.specs.Spelling.{reverse_of, row_spelled, spelled, Sized}
use Rattle.blocks.specs.declared.steps.Child.{Child}
use Rattle.blocks.specs.declared.steps.Child.TheVariants.{Nothing, At, Image}
use Rattle.blocks.specs.declared.steps.Step.{Step}
use Rattle.blocks.specs.Write.{puts}
use Rattle.blocks.proofs.Laws.Write.{made_all}
use Rattle.blocks.specs.Steps.{numbers_of, place_of, child_of, node_of, StepsOf}

-- ---- a block with places for its numbers: 1 to 5 for w, a, b, v and e, and 1 for T. Its own nodes are numbered from 2 on

abbrev pub coded : Row → Block
coded r = row_block r 1 2 3 4 5 (old 1)

abbrev pub child_code : Child → ℕ
child_code Nothing = 0
child_code (At k) = k + 2
child_code Image = 1

abbrev pub code : Step → Node
code s = node s.0 (place_of s.1) (child_code s.2) (child_code s.3)

-- ---- numbers for the places

module _ (ns : List ℕ) (at t : ℕ) where
  child_in : ℕ → ℕ
  child_in zero = 0
  child_in (suc zero) = t
  child_in (suc (suc k)) = at + k

  decode : Node → Node
  decode x = node x.kind (get_or ns x.param 0) (child_in x.left) (child_in x.right)

  child_decoded : (c : Child) → child_in (child_code c) ≡ child_of at t c
  unfolding child_in
  child_decoded Nothing = refl
  child_decoded (At k) = let e : k + 2 ≡ suc (suc k) = omega arith in rw e refl
  child_decoded Image = refl

  decoded : (s : Step) → decode (code s) ≡ node_of ns at t s
  unfolding decode
  decoded s = rw (child_decoded s.2, child_decoded s.3) refl

  all_decoded : (steps : List Step) → map decode (map code steps) ≡ map (node_of ns at t) steps
  all_decoded [] = refl
  all_decoded (s ∷ ss) = ap₂ (λ (x : Node) (xs : List Node). x ∷ xs) (decoded s) (all_decoded ss)

  fill : Block → Block
  fill (old i) = old (child_in i)
  fill (end k p) = end k (get_or ns p 0)
  fill (on k p x) = on k (get_or ns p 0) (fill x)
  fill (join k x y) = join k (fill x) (fill y)

  size-fill : (B : Block) → size (fill B) ≡ size B
  unfolding fill size
  size-fill (old i) = refl
  size-fill (end k p) = refl
  size-fill (on k p x) = ap suc (size-fill x)
  size-fill (join k x y) = ap₂ (λ m n. suc (m + n)) (size-fill x) (size-fill y)

  own : (b n : ℕ) → 1 < b → n + 2 ≡ at + b → child_in b ≡ n
  unfolding child_in
  own zero n h e = absurd (omega arith)
  own (suc zero) n h e = absurd (omega arith)
  own (suc (suc k)) n h e = omega arith

  root_filled : (B : Block) (b n : ℕ) → 1 < b → n + 2 ≡ at + b → child_in (root B b) ≡ root (fill B) n
  unfolding fill root size
  root_filled (old i) b n h e = refl
  root_filled (end k p) b n h e = own b n h e
  root_filled (on k p x) b n h e = let s = size-fill x in own (b + size x) _ (omega arith) (omega arith)
  root_filled (join k x y) b n h e =
      let s = size-fill x in let s' = size-fill y in own (b + (size x + size y)) _ (omega arith) (omega arith)

-- the nodes of a coded block, the first of which has number b, are those of the filled block, the first of which has number n
module _ (qs : List ℕ) (at t : ℕ) where
  abbrev ns : List ℕ
  ns = 0 ∷ qs

  emit_filled : (B : Block) (b n : ℕ) → 1 < b → n + 2 ≡ at + b → map (decode ns at t) (emit B b) ≡ emit (fill ns at t B) n
  unfolding fill emit size decode child_in
  emit_filled (old i) b n h e = refl
  emit_filled (end k p) b n h e = refl
  emit_filled (on k p x) b n h e = rw (map-append, emit_filled x b n h e, root_filled ns at t x b n h e) refl
  emit_filled (join k x y) b n h e =
      let s = size-fill ns at t x in let c = b + size x in let m = n + size (fill ns at t x) in
      let g : 1 < c = omega arith in let d : m + 2 ≡ at + c = omega arith in
      rw (map-append, map-append, emit_filled x b n h e, emit_filled y c m g d, root_filled ns at t x b n h e, root_filled ns at t y c m g d) refl

-- each row, by computing
block_filled : (r : Row) (w a b v e at t : ℕ) → fill (0 ∷ w ∷ a ∷ b ∷ v ∷ e ∷ []) at t (coded r) ≡ row_block r w a b v e (old t)
unfolding fill row_block child_in
block_filled Cn1Name w a b v e at t = refl
block_filled AsName w a b v e at t = refl
block_filled Cn2Name w a b v e at t = refl
block_filled ApLabel w a b v e at t = refl
block_filled DpLabel w a b v e at t = refl
block_filled AsHere w a b v e at t = refl
block_filled DsHere w a b v e at t = refl
block_filled DsName w a b v e at t = refl
block_filled AtDiamond w a b v e at t = refl
block_filled AtBox w a b v e at t = refl
block_filled Dt1Diamond w a b v e at t = refl
block_filled Dt1Box w a b v e at t = refl
block_filled Dt2Diamond w a b v e at t = refl
block_filled Dt2Box w a b v e at t = refl
block_filled Dt2DiamondBack w a b v e at t = refl
block_filled Dt2BoxBack w a b v e at t = refl
block_filled DsDiamond w a b v e at t = refl
block_filled DsBox w a b v e at t = refl
block_filled RtDiamond w a b v e at t = refl
block_filled RtBox w a b v e at t = refl
block_filled RtDiamondBack w a b v e at t = refl
block_filled RtBoxBack w a b v e at t = refl

row_filled : (r : Row) (s : Spelling) (w at t : ℕ) → s.row ≡ r → fill (numbers_of s w) at t (coded r) ≡ row_spelled s w t
unfolding row_spelled
row_filled r s w at t e = rw e (block_filled r w s.first s.second (reverse_of s.second) every_way at t)

-- steps with the right codes are those of their row
pub steps_right : (r : Row) (steps : List Step) → map code steps ≡ emit (coded r) 2 → StepsOf r steps
steps_right r steps h = record {
  right = λ s w at t e.
      sym (all_decoded (numbers_of s w) at t steps)
      ∙ ap (map (decode (numbers_of s w) at t)) h
      ∙ emit_filled (w ∷ s.first ∷ s.second ∷ reverse_of s.second ∷ every_way ∷ []) at t (coded r) 2 at (omega arith) refl
      ∙ ap (λ (B : Block). emit B at) (row_filled r s w at t e);
}

-- a row has 1 to 11 nodes
coded_few : (r : Row) → (1 ≤ size (coded r)) × (size (coded r) ≤ 11)
unfolding row_block size
coded_few Cn1Name = (omega arith, omega arith)
coded_few AsName = (omega arith, omega arith)
coded_few Cn2Name = (omega arith, omega arith)
coded_few ApLabel = (omega arith, omega arith)
coded_few DpLabel = (omega arith, omega arith)
coded_few AsHere = (omega arith, omega arith)
coded_few DsHere = (omega arith, omega arith)
coded_few DsName = (omega arith, omega arith)
coded_few AtDiamond = (omega arith, omega arith)
coded_few AtBox = (omega arith, omega arith)
coded_few Dt1Diamond = (omega arith, omega arith)
coded_few Dt1Box = (omega arith, omega arith)
coded_few Dt2Diamond = (omega arith, omega arith)
coded_few Dt2Box = (omega arith, omega arith)
coded_few Dt2DiamondBack = (omega arith, omega arith)
coded_few Dt2BoxBack = (omega arith, omega arith)
coded_few DsDiamond = (omega arith, omega arith)
coded_few DsBox = (omega arith, omega arith)
coded_few RtDiamond = (omega arith, omega arith)
coded_few RtBox = (omega arith, omega arith)
coded_few RtDiamondBack = (omega arith, omega arith)
coded_few RtBoxBack = (omega arith, omega arith)

-- ---- what is spelled

-- a copy is one node, with 0 in the fields that its kind does not use; a kind above the last is read as the last
pub copied_node : (k p t u at : ℕ) → emit (copied (kind_of k) p (old t) (old u)) at
    ≡ node (min k slot_no) (if nat_le not_no k && nat_lt k dia_no then 0 else p) (if nat_le not_no k && nat_lt k slot_no then t else 0) (if nat_le or_no k && nat_lt k dia_no then u else 0) ∷ []
unfolding copied emit root kind_of kind_no
copied_node k p t u at =
    each_kind (λ k. emit (copied (kind_of k) p (old t) (old u)) at
    ≡ node (min k slot_no) (if nat_le not_no k && nat_lt k dia_no then 0 else p) (if nat_le not_no k && nat_lt k slot_no then t else 0) (if nat_le or_no k && nat_lt k dia_no then u else 0) ∷ [])
    refl refl refl refl refl refl refl refl refl refl refl refl
    (λ k h. let e : min k 12 ≡ 12 = omega arith in rw (kind_past k h, e, le-leb not_no k (omega arith), le-leb or_no k (omega arith), le-ltb k dia_no (omega arith), le-ltb k slot_no h) refl) k

copied-size : (K : Kind) (w t u : ℕ) → size (copied K w (old t) (old u)) ≡ 1
unfolding copied size
copied-size (leaf k) w t u = refl
copied-size (unary k_not) w t u = refl
copied-size (unary k_dia) w t u = refl
copied-size (unary k_box) w t u = refl
copied-size (unary k_mu) w t u = refl
copied-size (unary k_nu) w t u = refl
copied-size (binary k) w t u = refl

pub sized_copy : Sized None 1
unfolding spelled
sized_copy = record { right = λ k w t u. sym (copied-size (kind_of k) w t u); some = omega arith; few = omega arith }

-- how many nodes a row has
row-size : (s : Spelling) (w t : ℕ) → size (row_spelled s w t) ≡ size (coded s.row)
row-size s w t = ap size (sym (row_filled s.row s w 0 t refl)) ∙ size-fill (numbers_of s w) 0 t (coded s.row)

pub row_count : (s : Spelling) (w t : ℕ) {steps : List Step} → StepsOf s.row steps → length steps ≡ size (row_spelled s w t)
row_count s w t {steps} R =
    sym (length-map steps _) ∙ ap length (R.right s w 0 t refl) ∙ emit-length (row_spelled s w t) 0

pub sized_row : (s : Spelling) {steps : List Step} → StepsOf s.row steps → Sized (Some s) (length steps)
unfolding spelled
sized_row s {steps} R =
    let n = row_count s 0 0 R in let z = row-size s 0 0 in let f = coded_few s.row in
    record { right = λ k w t u. row_count s w t R; some = omega arith; few = omega arith }

-- all steps of a row are written
pub row_written : (s : Spelling) (w t at : ℕ) (o : List ℕ) {out : List ℕ} {steps : List Step} → StepsOf s.row steps
    → out ≡ puts o at 0 (take (length steps) (map (node_of (numbers_of s w) at t) steps)) → out ≡ puts o at 0 (emit (row_spelled s w t) at)
row_written s w t at o {out} {steps} R e =
    made_all (node_of (numbers_of s w) at t) o at steps e ∙ ap (puts o at 0) (R.right s w at t refl)

-- by cases, as the code has it
pub spelled-none : {s : Option Spelling} (k w t u : ℕ) → s ≡ None → spelled s k w t u ≡ copied (kind_of k) w (old t) (old u)
unfolding spelled
spelled-none k w t u e = rw e refl

pub spelled-some : {s : Option Spelling} {x : Spelling} (k w t u : ℕ) → s ≡ Some x → spelled s k w t u ≡ row_spelled x w t
unfolding spelled
spelled-some k w t u e = rw e refl
