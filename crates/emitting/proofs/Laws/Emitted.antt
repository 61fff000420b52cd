-- The second pass for one edit: blocks written in any order, each at its number.
use Rattle.std.specs.Prelude.{◌≡◌, refl, true, false, Option, None, [], ◌∷◌, set, take, List, ◌++◌, ℕ, zero, suc, ◌+◌, ◌*◌, ◌-◌, ◌≤◌, ◌<◌, length, get_or}
use Rattle.std.proofs.Common.{◌∙◌, subst, add-one, length-set, get_or-take, get_or-append-add, ext_get_or, length-take-le, sym, ap, ap₂, arith}
use Rattle.std.proofs.Math.ListN.{get_or-append}
use Rattle.finite.specs.Tests.{below}
use Rattle.finite.proofs.Laws.Bools.{either, look, clash}
use Rattle.finite.proofs.Laws.Below.{below_out, not-below, equal?}
use Rattle.semantics.specs.Edit.{Edit}
use Rattle.semantics.specs.Table.{kind_of, Node, node_fits}
use Rattle.semantics.specs.Block.{Block, old, size, emit, block, rewrite_table}
use Rattle.semantics.proofs.Laws.Emit.{emit-length}
use Rattle.condition.specs.Bytes.{node_at, nodes, bytes_of}
use Rattle.condition.proofs.Laws.Bytes.{length-bytes}
use Rattle.condition.proofs.Laws.Limits.{fields_low, kind_known}
use Rattle.limits.specs.Limits.{kinds}
use Rattle.spelling.specs.declared.Spelling.{Spelling}
use Rattle.spelling.specs.Spelling.{spelled, Spells, Sized}
use Rattle.spelling.specs.Rows.{copied}
use Rattle.blocks.specs.Write.{put, puts, TableWritten}
use Rattle.blocks.proofs.Laws.Rows.{sized_copy}
use Rattle.blocks.proofs.Laws.Write.{length-puts, puts_single}
use Rattle.emitting.specs.declared.Stage.{Stage}
use Rattle.emitting.specs.declared.Stage.TheVariants.{ToCopy, Emitted}
use Rattle.emitting.specs.State.{block_in, block_at, BlockWritten, step, state_at, most_made, start_of, start_in, Numbered, Numbering, waits, waits_at, NoneEmitted, Emittable, Stands, Emitting}
use Rattle.emitting.proofs.Laws.State.{state_out}
use Rattle.emitting.proofs.Laws.Numbered.{start_more, starts_up, start_is, numbered_low, start_none, image_is, image_last}
use Rattle.emitting.proofs.Laws.Fits.{first_leaf}
use Rattle.emitting.proofs.Laws.Deep.{set_emitted, set_other}
use Rattle.emitting.proofs.Laws.Puts.{puts_low, puts_high, puts_in, bytes_append}

-- ---- one block written

-- the definition's bytes with block i behind those before it
bytes_more : (e : Edit) (s : List ℕ) (i : ℕ)
    → bytes_of (state_at e s (suc i)).out ≡ bytes_of (state_at e s i).out ++ bytes_of (emit (block_at e s i) (start_of e s i))
unfolding state_at step start_of
bytes_more e s i = bytes_append (state_at e s i).out (emit (block_at e s i) (length (state_at e s i).out))

bytes_start : (e : Edit) (s : List ℕ) (i : ℕ) → length (bytes_of (state_at e s i).out) ≡ 6 * start_of e s i
unfolding start_of
bytes_start e s i = length-bytes (state_at e s i).out

-- block i is written at its number
module _ (s : List ℕ) (e : Edit) (out : List ℕ) (i : ℕ) (out' : List ℕ) (h : out' ≡ puts out (start_of e s i) 0 (emit (block_at e s i) (start_of e s i))) where
  block_end : start_of e s (suc i) ≡ start_of e s i + length (emit (block_at e s i) (start_of e s i))
  block_end = start_more e s i ∙ ap (λ (m : ℕ). start_of e s i + m) (sym (emit-length (block_at e s i) (start_of e s i)))

  stands_new : 6 * start_of e s (suc i) ≤ length out → Stands s e out' i
  unfolding Stands
  stands_new f p a b =
      let z : p ≡ length (bytes_of (state_at e s i).out) + (p - 6 * (start_of e s i + 0)) = omega (arith, bytes_start e s i) in
      ap (λ (o : List ℕ). get_or o p 0) h
      ∙ puts_in out (start_of e s i) 0 (emit (block_at e s i) (start_of e s i)) p (omega arith) (omega (arith, block_end)) (omega arith)
      ∙ sym (get_or-append-add (bytes_of (state_at e s i).out) (bytes_of (emit (block_at e s i) (start_of e s i))) (p - 6 * (start_of e s i + 0)) 0)
      ∙ ap₂ (λ (l : List ℕ) (m : ℕ). get_or l m 0) (sym (bytes_more e s i)) (sym z)

  stands_still : (j : ℕ) → (j ≡ i → ⊥) → Stands s e out j → Stands s e out' j
  unfolding Stands
  stands_still j ne S p a b =
      ap (λ (o : List ℕ). get_or o p 0) h
      ∙ either
      (look (below j i))
      (λ q. let lt : suc j ≤ i = below_out j i q in
      puts_low out (start_of e s i) 0 (emit (block_at e s i) (start_of e s i)) p (omega (arith, starts_up e s (suc j) i lt)))
      (λ q. let le : i ≤ j = not-below j i q in let gt : suc i ≤ j = omega arith in
      puts_high out (start_of e s i) 0 (emit (block_at e s i) (start_of e s i)) p (omega (arith, starts_up e s (suc i) j gt, block_end)))
      ∙ S p a b

  emitting_one : (stages : List Stage) → i < length stages → 6 * start_of e s (suc i) ≤ length out → Emitting s e stages out (set stages i Emitted) out'
  emitting_one stages b f =
      let here : waits_at (set stages i Emitted) i ≡ false = set_emitted stages refl b in
      let other : (j : ℕ) → (j ≡ i → ⊥) → get_or (set stages i Emitted) j ToCopy ≡ get_or stages j ToCopy = set_other stages refl b in
      record {
        size = length-set stages i Emitted;
        room = ap length h ∙ length-puts out (start_of e s i) 0 (emit (block_at e s i) (start_of e s i));
        stays = λ j p. either (equal? j i) (λ q. rw q here) (λ q. ap waits (other j q) ∙ p);
        same = λ j n. either (equal? j i) (λ q. clash (rw q at n) here) (λ q. other j q);
        stand = λ j n p. either (equal? j i) (λ q. subst (Stands s e out') (sym q) (stands_new f)) (λ q. clash n (sym (ap waits (other j q)) ∙ p));
        keeps = λ j S. either (equal? j i) (λ q. subst (Stands s e out') (sym q) (stands_new f)) (λ q. stands_still j q S);
      }

-- ---- the steps of the code

pub emitting_none : {s : List ℕ} {e : Edit} {stages : List Stage} {out : List ℕ} → Emitting s e stages out stages out
emitting_none = record { size = refl; room = refl; stays = λ j p. p; same = λ j n. refl; stand = λ j n p. clash n p; keeps = λ j S. S }

pub emitting_then : {s : List ℕ} {e : Edit} {stages stages₁ stages₂ : List Stage} {out out₁ out₂ : List ℕ} → Emitting s e stages out stages₁ out₁
    → Emitting s e stages₁ out₁ stages₂ out₂ → Emitting s e stages out stages₂ out₂
emitting_then {stages₁ = stages₁} {stages₂} P Q = record {
  size = Q.size ∙ P.size;
  room = Q.room ∙ P.room;
  stays = λ j p. Q.stays j (P.stays j p);
  same = λ j n. Q.same j n ∙ P.same j (either (look (waits_at stages₁ j)) (λ q. q) (λ q. clash n (Q.stays j q)));
  stand = λ j n p.
      either
      (look (waits_at stages₁ j))
      (λ q. Q.stand j q p)
      (λ q. Q.keeps j (P.stand j n q));
  keeps = λ j S. Q.keeps j (P.keeps j S);
}

-- what is needed is there after more nodes are emitted
pub emittable_then : {s : List ℕ} {e : Edit} {stages stages' : List Stage} {out out' : List ℕ} {n : ℕ} → Emittable s e stages out n
    → Emitting s e stages out stages' out' → Emittable s e stages' out' n
emittable_then {stages' = stages'} Y P = record {
  rowed = record {
    size = P.size ∙ Y.rowed.size;
    copies = λ j h c. Y.rowed.copies j h (sym (P.same j (ap waits c)) ∙ c);
  };
  room = omega (arith, P.room, Y.room);
}

-- ---- the block of node c, and where it stands

module _ {s : List ℕ} {e : Edit} {images : List ℕ} {n : ℕ} (F : (j : ℕ) → j < n → node_fits j (node_at s j) ≡ true) (N : Numbered s e images n) (c : ℕ) (h : c < n) where
  pub start_small : start_in images c ≤ most_made
  start_small = omega (arith, start_is N c (omega arith), starts_up e s c n (omega arith), N.few)

  pub left_low : {l : ℕ} → l ≡ (node_at s c).left → l ≤ c - 1
  left_low q = omega (arith, (fields_low c (node_at s c) (F c h)).0)

  pub right_low : {r : ℕ} → r ≡ (node_at s c).right → r ≤ c - 1
  right_low q = omega (arith, (fields_low c (node_at s c) (F c h)).1)

  pub kind_low : {k : ℕ} → k ≡ (node_at s c).kind → k < kinds
  kind_low q = omega (arith, kind_known c (node_at s c) (F c h))

  -- there is room for it, and it is written
  pub has_room : {stages : List Stage} {out : List ℕ} → Emittable s e stages out n → 6 * start_of e s (c + 1) ≤ length out
  has_room Y = omega (arith, starts_up e s (c + 1) n (omega arith), Y.room)

  pub emitted : {stages stages' : List Stage} {out out' : List ℕ} → Emittable s e stages out n → BlockWritten s e c out out' → stages' ≡ set stages c Emitted
      → Emitting s e stages out stages' out'
  emitted {stages} {stages'} {out} {out'} Y w es =
      let b : c < length stages = omega (arith, Y.rowed.size, N.most) in let g : suc c ≤ n = omega arith in
      rw es (emitting_one s e out c out' w stages b (omega (arith, starts_up e s (suc c) n g, Y.room)))

  -- a spelling of node c, where t and u are the images of its fields
  module _ {x : Option Spelling} {k p l r t u : ℕ} (S : Spells e k p x) (ek : k ≡ (node_at s c).kind) (ep : p ≡ (node_at s c).param)
      (el : l ≡ (node_at s c).left) (er : r ≡ (node_at s c).right) (et : t ≡ get_or images l 0) (eu : u ≡ get_or images r 0) where
    block_here : spelled x k p t u ≡ block_at e s c
    unfolding block_in
    block_here =
        let M : Numbered s e images c = numbered_low N c (omega arith) in
        let im : List ℕ = (state_at e s c).images in let f = F c h in let low = fields_low c (node_at s c) f in
        S.right t u
        ∙ ap₂ (λ (i j : ℕ). block e (kind_of i) j (old t) (old u)) ek ep
        ∙ either
        (equal? c 0)
        (λ z. first_leaf (node_at s c) (subst (λ (m : ℕ). node_fits m (node_at s c) ≡ true) z f) e _ _ _ _ _)
        (λ z. ap₂ (λ (i j : ℕ). block e (kind_of (node_at s c).kind) (node_at s c).param (old i) (old j))
        (et ∙ image_is M l (omega (arith, low.0)) ∙ ap (λ (m : ℕ). get_or im m 0) el)
        (eu ∙ image_is M r (omega (arith, low.1)) ∙ ap (λ (m : ℕ). get_or im m 0) er))

    start_next : start_of e s (suc c) ≡ start_in images c + size (spelled x k p t u)
    start_next = omega (arith, start_more e s c, start_is N c (omega arith), ap size block_here)

    -- there is room for it, and it is written from its start on
    pub block_room : {m b : ℕ} → m ≡ start_in images c → 6 * start_of e s (c + 1) ≤ b → 6 * (m + size (spelled x k p t u)) ≤ b
    block_room em f = omega (arith, start_next, ap (start_of e s) (add-one c))

    pub block_written : (out : List ℕ) {out' : List ℕ} {m : ℕ} → m ≡ start_in images c → out' ≡ puts out m 0 (emit (spelled x k p t u) m) → BlockWritten s e c out out'
    block_written out em eo =
        let at = em ∙ start_is N c (omega arith) in eo ∙ ap₂ (λ (B : Block) (i : ℕ). puts out i 0 (emit B i)) block_here at

    -- a block of one node begins with its image
    pub alone : {m : ℕ} → Sized x 1 → m ≡ get_or images c 0 → m ≡ start_in images c
    alone Z em = omega (arith, em, N.imaged c h, image_last e s c, start_next, Z.right k p t u)

  -- a copy is written at the node's image
  pub image_room : {m b : ℕ} → m ≡ get_or images c 0 → 6 * start_of e s (c + 1) ≤ b → 6 * m + 6 ≤ b
  image_room em f = omega (arith, em, N.imaged c h, image_last e s c, ap (start_of e s) (add-one c))

  pub copy_written : {k p l r t u : ℕ} → Spells e (node_at s c).kind (node_at s c).param None → k ≡ (node_at s c).kind → p ≡ (node_at s c).param
      → l ≡ (node_at s c).left → r ≡ (node_at s c).right → t ≡ get_or images l 0 → u ≡ get_or images r 0
      → {y : Node} → ((at : ℕ) → emit (copied (kind_of k) p (old t) (old u)) at ≡ y ∷ [])
      → (out : List ℕ) {out' : List ℕ} {m : ℕ} → m ≡ get_or images c 0 → out' ≡ put out m y → BlockWritten s e c out out'
  unfolding spelled
  copy_written {k} {p} S ek ep el er et eu {y} q out {out'} {m} em eo =
      let Z : Spells e k p None = rw (ek, ep) S in
      block_written Z ek ep el er et eu out (alone Z ek ep el er et eu sized_copy em) (eo ∙ puts_single out m y (q m))

-- ---- all blocks

-- the nodes from top to below n are emitted
abbrev pub EmittedFrom : List Stage → ℕ → ℕ → Type 0
EmittedFrom stages top n = (j : ℕ) → top ≤ j → j < n → waits_at stages j ≡ false

pub emitted_more : {s : List ℕ} {e : Edit} {stages stages' : List Stage} {out out' : List ℕ} {top n : ℕ} → Emitting s e stages out stages' out'
    → waits_at stages' top ≡ false → EmittedFrom stages (top + 1) n → EmittedFrom stages' top n
emitted_more P here D j a b = either (equal? j _) (λ q. rw q here) (λ q. P.stays j (D j (omega arith) b))

all_stand : (s : List ℕ) (e : Edit) (out : List ℕ) (n : ℕ) → ((j : ℕ) → j < n → Stands s e out j) → (p : ℕ) → p < 6 * start_of e s n
    → get_or out p 0 ≡ get_or (bytes_of (state_at e s n).out) p 0
unfolding Stands
all_stand s e out zero S p h = absurd (omega (arith, start_none e s))
all_stand s e out (suc n) S p h =
    either
    (look (below p (6 * start_of e s n)))
    (λ q. let lt : p < 6 * start_of e s n = below_out p _ q in
    all_stand s e out n (λ j g. S j (omega arith)) p lt
    ∙ sym (ap (λ (l : List ℕ). get_or l p 0) (bytes_more e s n)
    ∙ get_or-append (bytes_of (state_at e s n).out) _ 0 p (omega (arith, bytes_start e s n))))
    (λ q. S n (omega arith) p (not-below p _ q) h)

state_written : (s : List ℕ) (e : Edit) (out : List ℕ) (n : ℕ) → ((j : ℕ) → j < n → Stands s e out j) → TableWritten out (state_at e s n).out
unfolding TableWritten start_of
state_written s e out n S h =
    let xs = (state_at e s n).out in
    let k : length (take (6 * length xs) out) ≡ 6 * length xs = length-take-le (6 * length xs) out (omega arith) in
    ext_get_or 0 (take (6 * length xs) out) (bytes_of xs) (k ∙ sym (length-bytes xs))
    (λ p q. let g : p < 6 * length xs = omega arith in get_or-take (6 * length xs) out p 0 g ∙ all_stand s e out n S p g)

pub all_written : {s : List ℕ} {e : Edit} {stages stages' : List Stage} {out out' : List ℕ} {n : ℕ} → Emitting s e stages out stages' out' → NoneEmitted stages n
    → EmittedFrom stages' 0 n → TableWritten out' (rewrite_table e (nodes s n))
all_written {s} {e} {out' = out'} {n} P M D =
    subst (λ (xs : List Node). TableWritten out' xs) (state_out e s n)
    (state_written s e out' n (λ j g. P.stand j (M j g) (D j (omega arith) g)))

-- how many nodes there are
pub counted : {s : List ℕ} {e : Edit} {images : List ℕ} {stages : List Stage} {n r : ℕ} → Numbering s e images stages n r → r ≡ length (rewrite_table e (nodes s n))
unfolding start_of
counted {s} {e} {n = n} M = M.here ∙ ap length (state_out e s n)

-- all of them are in the buffer, where there is room
pub written : (out : List ℕ) (xs : List Node) {r : ℕ} → TableWritten out xs → r ≡ length xs → 6 * r ≤ length out → take (6 * r) out ≡ bytes_of xs
unfolding TableWritten
written out xs W e h = rw e (W (omega arith))
