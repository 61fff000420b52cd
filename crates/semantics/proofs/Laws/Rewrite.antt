-- A table rewritten through a sheet is a table again, and says before the sheet what the table says after it: its weakest precondition.
use Rattle.std.specs.Prelude.{◌≡◌, refl, ◌↔◌, Bool, ◌||◌, List, [], ◌∷◌, ◌++◌, true, false, not, ℕ, suc, ◌+◌, ◌-◌, ◌<◌, length, get_or}
use Rattle.std.proofs.Common.{sym, ◌∙◌, ap, arith, length-append, ap₂, subst}
use Rattle.std.proofs.Math.ListN.{get_or-append}
use Rattle.std.proofs.lemmas.List.{get_or_at}
use mathlib.Core.Logic.Iff
use Rattle.finite.proofs.Laws.Bools.{either, and_l, and_r}
use Rattle.finite.proofs.Laws.Below.{equal?, below_in, all_in, all_out, all_cong}
use Rattle.limits.specs.Limits.{slots, variables}
use Rattle.semantics.specs.Form.{Form, top, occ, free, closed, even}
use Rattle.semantics.specs.Holds.{Env, Model, Holds}
use Rattle.semantics.specs.Edit.{Edit, edit, legal, goes, Valid, sheet, sheet_legal, sheet_goes}
use Rattle.semantics.specs.Table.{Kind, leaf, unary, binary, kind_of, Node, tree, trees, tree_at, form_of, node_fits, nodes_fit, even_table}
use Rattle.semantics.specs.Block.{Block, old, size, root, emit, block, rewrite, rewrite_table, passed, rewrite_sheet}
use Rattle.semantics.proofs.Laws.TreeAt.{length_snoc, trees_append, table_length, trees_old, Lower, node_kind, node_lower, fits_first, fits_rest}
use Rattle.semantics.proofs.Laws.Edits.{Legal, legal_out, goes_out, edit_valid}
use Rattle.semantics.proofs.Laws.Emit.{fits_append, emit-length, block_fits, emit_fits, fill, emit-tree, Evens, emit-even}
use Rattle.semantics.proofs.Laws.Image.{Image, root-last, BlockRight, Kid, Kids, block_right}

-- what holds after some nodes, which have the trees ts and became the nodes out: each has its image there, and the last node's is the last
record Done (e : Edit) (ts : List Form) (images : List ℕ) (out : List Node) : Type 0 where
  len : length images ≡ length ts
  at : (i : ℕ) → i < length ts → (get_or images i 0 < length out) × Image e (get_or ts i top) (get_or (trees [] out) (get_or images i 0) top)
  last : 0 < length ts → suc (get_or images (length ts - 1) 0) ≡ length out
  fits : nodes_fit 0 out ≡ true
  evens : Evens ts → Evens (trees [] out)

start : (e : Edit) → Done e [] [] []
unfolding nodes_fit trees
start e = record {
  len = refl;
  at = λ i k. absurd (omega arith);
  last = λ k. absurd (omega arith);
  fits = refl;
  evens = λ h. h;
}

evens_first : (ts : List Form) (φ : Form) → Evens (ts ++ (φ ∷ [])) → Evens ts
evens_first ts φ h i k = ap even (sym (get_or-append ts (φ ∷ []) top i k)) ∙ h i (omega (arith, length_snoc ts φ))

evens_last : (ts : List Form) (φ : Form) → Evens (ts ++ (φ ∷ [])) → even φ ≡ true
evens_last ts φ h = ap even (sym (get_or_at ts φ [] top (length ts) refl)) ∙ h (length ts) (omega (arith, length_snoc ts φ))

-- one more node
module _ (e : Edit) (l : Legal e) (ts : List Form) (images : List ℕ) (out : List Node) (done : Done e ts images out)
    (x : Node) (fit : node_fits (length ts) x ≡ true) where
  abbrev os : List Form
  os = trees [] out

  abbrev B : Block
  B = block e (kind_of x.kind) x.param (old (get_or images x.left 0)) (old (get_or images x.right 0))

  abbrev b : ℕ
  b = length out

  kid : (i : ℕ) → i < length ts → Kid e os (get_or images i 0) (get_or ts i top)
  kid i h = let g = done.at i h in (below_in _ _ (omega (arith, g.0, table_length out)), g.1)

  kids : (k : Kind) → Lower (length ts) x k
      → Kids e os k (get_or images x.left 0) (get_or images x.right 0) (get_or ts x.left top) (get_or ts x.right top)
  unfolding Kids Lower
  kids (leaf k) h = tt
  kids (unary k) h = kid x.left h
  kids (binary k) h = (kid x.left h.0, kid x.right h.1)

  is_right : BlockRight e os B (tree ts x)
  unfolding tree
  is_right =
      block_right e l os (length ts) x (kind_of x.kind) (node_kind _ x fit) _ _ _ _ (kids (kind_of x.kind) (node_lower _ x fit))

  -- the trees after the block, whose number is that of the trees before it
  all-trees : trees [] (out ++ emit B b) ≡ trees os (emit B b)
  all-trees = trees_append out (emit B b) []

  new_image : Image e (tree ts x) (get_or (trees [] (out ++ emit B b)) (root B b) top)
  new_image =
      subst (Image e (tree ts x))
      (sym (ap (λ us. get_or us (root B b) top) all-trees
      ∙ subst (λ (n : ℕ). get_or (trees os (emit B n)) (root B n) top ≡ fill os B) (table_length out) (emit-tree B os is_right.fits)))
      is_right.image

  next : Done e (ts ++ (tree ts x ∷ [])) (images ++ (root B b ∷ [])) (out ++ emit B b)
  next =
      let n = length ts in
      let len_t = length_snoc ts (tree ts x) in
      let len_o : length (out ++ emit B b) ≡ b + size B = simp length-append (omega (arith, emit-length B b)) in
      let end = root-last B is_right.made b in
      let own : get_or (images ++ (root B b ∷ [])) n 0 ≡ root B b = get_or_at images (root B b) [] 0 n done.len in
      let at_b : block_fits b B ≡ true = subst (λ (m : ℕ). block_fits m B ≡ true) (table_length out) is_right.fits in
      record {
        len = simp length-append (omega (arith, done.len));
        at = λ i h. either (equal? i n)
            (λ q. rw (q, own, get_or_at ts (tree ts x) [] top n refl) (omega (arith, end, len_o), new_image))
            (λ q.
            let k : i < n = omega (arith, len_t) in
            let g = done.at i k in
            rw (get_or-append images (root B b ∷ []) 0 i (omega (arith, done.len)), get_or-append ts (tree ts x ∷ []) top i k) (
              omega (arith, g.0, len_o),
              subst (Image e (get_or ts i top))
                  (sym (ap (λ us. get_or us (get_or images i 0) top) all-trees ∙ trees_old (emit B b) os _ (omega (arith, table_length out, g.0))))
                  g.1,
            ));
        last = λ _. rw (let idx : length (ts ++ (tree ts x ∷ [])) - 1 ≡ n = omega (arith, len_t) in idx, own) (omega (arith, end, len_o));
        fits = fits_append 0 out (emit B b) done.fits (subst (λ (m : ℕ). nodes_fit m (emit B b) ≡ true) (omega arith) (emit_fits B b at_b));
        evens = λ h. subst Evens (sym all-trees)
            (subst (λ (m : ℕ). Evens (trees os (emit B m))) (table_length out)
            (emit-even B os is_right.fits (done.evens (evens_first ts _ h)) (is_right.evens (evens_last ts _ h))));
      }

all_done : (e : Edit) → Legal e → (xs : List Node) (ts : List Form) (images : List ℕ) (out : List Node)
    → Done e ts images out → nodes_fit (length ts) xs ≡ true → (images' : List ℕ) × Done e (trees ts xs) images' (rewrite e images out xs)
unfolding rewrite trees
all_done e l [] ts images out done f = (images, done)
all_done e l (x ∷ xs) ts images out done f =
    all_done e l xs _ _ _ (next e l ts images out done x (fits_first _ x xs f))
    (subst (λ (n : ℕ). nodes_fit n xs ≡ true) (sym (length_snoc ts (tree ts x))) (fits_rest _ x xs f))

pub evens_in : (xs : List Node) → even_table xs ≡ true → Evens (trees [] xs)
unfolding even_table tree_at
evens_in xs h i k = all_out (length xs) _ h i (omega (arith, table_length xs))

pub evens_out : (xs : List Node) → Evens (trees [] xs) → even_table xs ≡ true
unfolding even_table tree_at
evens_out xs h = all_in (length xs) _ (λ i k. h i (omega (arith, table_length xs)))

-- through one edit
module _ (e : Edit) (l : legal e ≡ true) (xs : List Node) (f : nodes_fit 0 xs ≡ true) where
  done : (images : List ℕ) × Done e (trees [] xs) images (rewrite_table e xs)
  unfolding rewrite_table
  done = all_done e (legal_out e l) xs [] [] [] (start e) f

  pub table_fits : nodes_fit 0 (rewrite_table e xs) ≡ true
  table_fits = done.1.fits

  pub table_some_lem : 0 < length xs → 0 < length (rewrite_table e xs)
  table_some_lem h = omega (arith, done.1.last (omega (arith, table_length xs)))

  pub table_evens : even_table xs ≡ true → even_table (rewrite_table e xs) ≡ true
  table_evens h = evens_out (rewrite_table e xs) (done.1.evens (evens_in xs h))

  pub table_image : 0 < length xs → Image e (form_of xs) (form_of (rewrite_table e xs))
  unfolding form_of tree_at
  table_image h =
      let n = table_length xs in
      let i : ℕ = length (trees [] xs) - 1 in
      let r = done.1.at i (omega (arith, n)) in
      let at_end : get_or done.0 i 0 ≡ length (rewrite_table e xs) - 1 = omega (arith, done.1.last (omega (arith, n))) in
      let same-last : i ≡ length xs - 1 = omega (arith, n) in
      subst (λ (j : ℕ). Image e (get_or (trees [] xs) j top) (form_of (rewrite_table e xs))) same-last
      (subst (λ (j : ℕ). Image e (get_or (trees [] xs) i top) (get_or (trees [] (rewrite_table e xs)) j top)) at_end r.1)

-- the table ys is xs rewritten through a sheet
pub record Rewritten (es : List Edit) (xs ys : List Node) : Type 0 where
  pub fits : nodes_fit 0 ys ≡ true
  pub evens : even_table xs ≡ true → even_table ys ≡ true
  pub some : 0 < length xs → 0 < length ys
  pub occurs : 0 < length xs → (b : Bool) (v : ℕ) → occ b v (form_of ys) ≡ occ b v (form_of xs)
  pub says : 0 < length xs → (M : Model) → Valid M → sheet_goes es M ≡ true
      → (ρ : Env) (s : ℕ) → s < slots → Holds (sheet es M) ρ (form_of xs) s ↔ Holds M ρ (form_of ys) s

-- the edit before the sheet is rewritten after it
one_more : (e : Edit) (es : List Edit) (xs ys : List Node) → legal e ≡ true → Rewritten es xs ys → Rewritten (e ∷ es) xs (rewrite_table e ys)
unfolding sheet sheet_goes
one_more e es xs ys l r = record {
  fits = table_fits e l ys r.fits;
  evens = λ h. table_evens e l ys r.fits (r.evens h);
  some = λ h. table_some_lem e l ys r.fits (r.some h);
  occurs = λ h b v. (table_image e l ys r.fits (r.some h)).occurs b v ∙ r.occurs h b v;
  says = λ h M v g ρ s k.
      let now = and_l (goes e M) _ g in
      Iff.trans
      (r.says h (edit e M) (edit_valid e l M v now) (and_r (goes e M) _ g) ρ s k)
      ((table_image e l ys r.fits (r.some h)).says M v (goes_out M v e now) ρ s k);
}

pub sheet-rewritten : (es : List Edit) → sheet_legal es ≡ true → (xs : List Node) → nodes_fit 0 xs ≡ true → Rewritten es xs (rewrite_sheet es xs)
unfolding sheet_legal passed sheet
sheet-rewritten [] l xs f = record {
  fits = f;
  evens = λ h. h;
  some = λ h. h;
  occurs = λ h b v. refl;
  says = λ h M v g ρ s k. Iff.rfl;
}
sheet-rewritten (e ∷ es) l xs f = one_more e es xs (rewrite_sheet es xs) (and_l _ _ l) (sheet-rewritten es (and_r (legal e) _ l) xs f)

-- items 8, 9 and 10 stay unmet
module _ (es : List Edit) (l : sheet_legal es ≡ true) (xs : List Node) (f : nodes_fit 0 xs ≡ true) where
  pub sheet_fits : nodes_fit 0 (rewrite_sheet es xs) ≡ true
  sheet_fits = (sheet-rewritten es l xs f).fits

  pub sheet-some : 0 < length xs → 0 < length (rewrite_sheet es xs)
  sheet-some = (sheet-rewritten es l xs f).some

  pub sheet-even : even_table xs ≡ true → even_table (rewrite_sheet es xs) ≡ true
  sheet-even = (sheet-rewritten es l xs f).evens

  pub sheet-closed : 0 < length xs → closed (form_of xs) ≡ true → closed (form_of (rewrite_sheet es xs)) ≡ true
  unfolding closed free
  sheet-closed h c =
      let o = (sheet-rewritten es l xs f).occurs h in
      all_cong variables _ _ (λ v _. ap₂ (λ x y. not (x || y)) (o true v) (o false v)) ∙ c
