-- The first pass for one edit: the numbers that the nodes' blocks begin with and end with.
use Rattle.std.specs.Prelude.{◌≡◌, refl, List, [], ℕ, zero, suc, ◌+◌, ◌*◌, ◌-◌, ◌≤◌, ◌<◌, length, get_or, set}
use Rattle.std.proofs.Common.{sym, ◌∙◌, ap, arith, not-suc-le-zero, length-append, length-set, get_or-set_same, get_or-set_other, ap₂, add-one}
use Rattle.std.proofs.lemmas.List.{get_or_at}
use Rattle.finite.proofs.Laws.Bools.{either}
use Rattle.finite.proofs.Laws.Below.{equal?}
use Rattle.semantics.specs.Edit.{Edit}
use Rattle.semantics.specs.Table.{kind_of}
use Rattle.semantics.specs.Block.{Block, old, end, on, join, size, root, block}
use Rattle.semantics.proofs.Laws.Emit.{emit-length}
use Rattle.condition.specs.Bytes.{node_at}
use Rattle.limits.specs.Limits.{table_nodes}
use Rattle.emitting.specs.declared.Stage.{Stage}
use Rattle.emitting.specs.declared.Stage.TheVariants.{ToCopy}
use Rattle.emitting.specs.State.{block_in, block_at, step, state_at, image_of, start_of, start_in, Numbered, Numbering, Planned, Rowed, NoneEmitted}
use Rattle.emitting.proofs.Laws.State.{images_length, image_at}
use Rattle.emitting.proofs.Laws.Sizes.{block-some}

-- ---- starts and images

root-some : (B : Block) (b : ℕ) → 1 ≤ size B → root B b + 1 ≡ b + size B
unfolding root size
root-some (old i) b h = absurd (omega arith)
root-some (end k p) b h = omega arith
root-some (on k p x) b h = omega arith
root-some (join k x y) b h = omega arith

pub start_more : (e : Edit) (s : List ℕ) (i : ℕ) → start_of e s (suc i) ≡ start_of e s i + size (block_at e s i)
unfolding start_of state_at step
start_more e s i =
    length-append (state_at e s i).out _ ∙ ap (λ (m : ℕ). length (state_at e s i).out + m) (emit-length (block_at e s i) _)

pub starts_up : (e : Edit) (s : List ℕ) (i n : ℕ) → i ≤ n → start_of e s i ≤ start_of e s n
starts_up e s i zero h = let z : i ≡ 0 = omega arith in rw z (omega arith)
starts_up e s i (suc n) h =
    either
    (equal? i (suc n))
    (λ q. rw q (omega arith))
    (λ q. let l : i ≤ n = omega arith in omega (arith, starts_up e s i n l, start_more e s n))

-- the image is the last node of the block
pub image_last : (e : Edit) (s : List ℕ) (i : ℕ) → image_of e s i + 1 ≡ start_of e s (suc i)
unfolding image_of state_at step start_of block_in
image_last e s i =
    ap (λ (m : ℕ). m + 1) (get_or_at (state_at e s i).images _ [] 0 i (images_length e s i))
    ∙ root-some (block_at e s i) (start_of e s i) (block-some e _ _ _ _)
    ∙ sym (start_more e s i)

-- ---- the loop

numbered_none : (s : List ℕ) (e : Edit) (images : List ℕ) → length images ≡ table_nodes → Numbered s e images 0
unfolding start_of state_at
numbered_none s e images h = record {
  size = h;
  most = omega arith;
  imaged = λ j q. absurd (not-suc-le-zero q);
  few = omega arith;
}

pub start_none : (e : Edit) (s : List ℕ) → 0 ≡ start_of e s 0
unfolding start_of state_at
start_none e s = refl

-- one node more: r is the size of its block
module _ {s : List ℕ} {e : Edit} {images : List ℕ} {n : ℕ} (N : Numbered s e images n) (k p next r : ℕ)
    (ek : k ≡ (node_at s n).kind) (ep : p ≡ (node_at s n).param) (en : next ≡ start_of e s n)
    (er : (t u : ℕ) → r ≡ size (block e (kind_of k) p (old t) (old u))) where
  next_start : next + r ≡ start_of e s (n + 1)
  unfolding block_in
  next_start =
      let g : r ≡ size (block_at e s n) =
      er _ _ ∙ ap₂ (λ (x y : ℕ). size (block e (kind_of x) y (old (get_or (state_at e s n).images (node_at s n).left 0)) (old (get_or (state_at e s n).images (node_at s n).right 0)))) ek ep in
      rw add-one (omega (arith, start_more e s n))

  numbered_more : n < table_nodes → r ≤ 11 → next ≤ 11 * n → (v : ℕ) → v ≡ next + r - 1 → Numbered s e (set images n v) (n + 1)
  numbered_more h l m v ev =
      let here : v ≡ image_of e s n = omega (arith, image_last e s n, next_start, ap (start_of e s) (add-one n)) in
      record {
        size = length-set images n v ∙ N.size;
        most = omega arith;
        imaged = λ j q.
            either
            (equal? j n)
            (λ g. rw g (get_or-set_same images n v 0 (omega (arith, N.size)) ∙ here))
            (λ g. get_or-set_other images n j v 0 g ∙ N.imaged j (omega arith));
        few = omega (arith, next_start);
      }

-- ---- starts by images

pub start_is : {s : List ℕ} {e : Edit} {images : List ℕ} {n : ℕ} → Numbered s e images n → (c : ℕ) → c ≤ n → start_in images c ≡ start_of e s c
unfolding start_in
start_is {s} {e} N zero h = start_none e s
start_is {s} {e} N (suc c) h = omega (arith, N.imaged c h, image_last e s c)

pub start_after : (images : List ℕ) (c : ℕ) {v : ℕ} → 1 ≤ c → v ≡ get_or images (c - 1) 0 → v + 1 ≡ start_in images c
unfolding start_in
start_after images zero h e = absurd (omega arith)
start_after images (suc c) h e = let z : suc c - 1 ≡ c = omega arith in ap (λ (m : ℕ). m + 1) (e ∙ ap (λ (m : ℕ). get_or images m 0) z)

pub start_first : (images : List ℕ) (c : ℕ) → c ≡ 0 → 0 ≡ start_in images c
unfolding start_in
start_first images c h = rw h refl

-- ---- stages

rowed_none : (s : List ℕ) (e : Edit) (stages : List Stage) → length stages ≡ table_nodes → Rowed s e stages 0 × NoneEmitted stages 0
rowed_none s e stages h = (record { size = h; copies = λ j q. absurd (not-suc-le-zero q) }, λ j q. absurd (not-suc-le-zero q))

-- one stage more
rowed_more : {s : List ℕ} {e : Edit} {stages : List Stage} {n k p r : ℕ} {stage : Stage} → Rowed s e stages n × NoneEmitted stages n → n < table_nodes
    → k ≡ (node_at s n).kind → p ≡ (node_at s n).param → Planned e k p stage r
    → Rowed s e (set stages n stage) (n + 1) × NoneEmitted (set stages n stage) (n + 1)
rowed_more {s} {e} {stages} {n} {stage = stage} R b ek ep P =
    let here : get_or (set stages n stage) n ToCopy ≡ stage = get_or-set_same stages n stage ToCopy (omega (arith, R.0.size)) in
    let other : (j : ℕ) → (j ≡ n → ⊥) → get_or (set stages n stage) j ToCopy ≡ get_or stages j ToCopy = λ j g. get_or-set_other stages n j stage ToCopy g in (
      record {
        size = length-set stages n stage ∙ R.0.size;
        copies = λ j h c.
            either
            (equal? j n)
            (λ g. rw (g, ← ek, ← ep) (P.copy (sym here ∙ ap (λ (m : ℕ). get_or (set stages n stage) m ToCopy) (sym g) ∙ c)))
            (λ g. R.0.copies j (omega arith) (sym (other j g) ∙ c));
      },
      λ j h.
          either
          (equal? j n)
          (λ g. rw (g, here) P.waiting)
          (λ g. rw (other j g) (R.1 j (omega arith))),
    )

-- ---- what is read from the images

pub numbered_low : {s : List ℕ} {e : Edit} {images : List ℕ} {n : ℕ} → Numbered s e images n → (i : ℕ) → i ≤ n → Numbered s e images i
numbered_low {s} {e} {images} {n} N i h = record {
  size = N.size;
  most = omega (arith, N.most);
  imaged = λ j q. N.imaged j (omega arith);
  few = omega (arith, N.few, starts_up e s i n h);
}

pub image_is : {s : List ℕ} {e : Edit} {images : List ℕ} {i : ℕ} → Numbered s e images i → (c : ℕ) → c < i → get_or images c 0 ≡ get_or (state_at e s i).images c 0
image_is {s} {e} {images} {i} N c h = N.imaged c h ∙ sym (image_at e s i c h)

-- and it is small
pub image_small : {s : List ℕ} {e : Edit} {images : List ℕ} {i r : ℕ} → Numbered s e images i → (c : ℕ) → c < i → r ≡ get_or images c 0 → r < start_of e s i
image_small {s} {e} {images} {i} N c h q = let g : suc c ≤ i = h in omega (arith, N.imaged c h, image_last e s c, starts_up e s (suc c) i g)

-- ---- the first pass

pub numbering_none : {s : List ℕ} {e : Edit} {images : List ℕ} {stages : List Stage} → length images ≡ table_nodes → length stages ≡ table_nodes → Numbering s e images stages 0 0
numbering_none {s} {e} {images} {stages} h g = record {
  numbered = numbered_none s e images h;
  rowed = (rowed_none s e stages g).0;
  none = (rowed_none s e stages g).1;
  here = start_none e s;
  small = omega arith;
}

-- one node more: its stage, the r nodes of its block, and its image v
pub numbering_more : {s : List ℕ} {e : Edit} {images : List ℕ} {stages : List Stage} {n next k p r v : ℕ} {stage : Stage} → Numbering s e images stages n next → n < table_nodes
    → k ≡ (node_at s n).kind → p ≡ (node_at s n).param → Planned e k p stage r → v ≡ next + r - 1
    → Numbering s e (set images n v) (set stages n stage) (n + 1) (next + r)
numbering_more {s} {e} {images} {stages} {n} {next} {k} {p} {r} {v} N h ek ep P ev =
    let er : (t u : ℕ) → r ≡ size (block e (kind_of k) p (old t) (old u)) = λ t u. P.sized.right k p t u ∙ ap size (P.spells.right t u) in
    let R = rowed_more (N.rowed, N.none) h ek ep P in
    record {
      numbered = numbered_more N.numbered k p next r ek ep N.here er h P.sized.few N.small v ev;
      rowed = R.0;
      none = R.1;
      here = next_start N.numbered k p next r ek ep N.here er;
      small = omega (arith, P.sized.few, N.small);
    }
