-- Bytes read as edits, and edits written as bytes.
use Rattle.std.specs.Prelude.{◌≡◌, refl, List, [], ◌∷◌, ◌++◌, Bool, not, ◌&&◌, ℕ, zero, suc, ◌+◌, ◌*◌, ◌/◌, ◌≤◌, ◌<◌, length, get_or, drop, true, false}
use Rattle.std.proofs.Common.{sym, ap, ◌∙◌, add_assoc, arith, length-append, drop-cons, get_or-drop}
use Rattle.std.proofs.Math.ListN.{get_or-eq_default}
use Rattle.finite.specs.Tests.{same}
use Rattle.finite.proofs.Laws.Bools.{either, look, no_true, and_l, and_r, not_out}
use Rattle.editions.specs.Edition.{second}
use Rattle.semantics.specs.Edit.{Edit, CN1, CN2, AP, DP, AT, RT, DT1, DT2, AS, DS, functional}
use Rattle.sheet.specs.Bytes.{link_edit, read_edit, four_at, edit_at, edits_of, edit_bytes, bytes_of, in_edition, all_in_edition}

-- an operation past the last is read as the last
pub read_past : (d o x y z : ℕ) → 8 ≤ o → DS x ≡ read_edit d o x y z
unfolding read_edit
read_past d o x y z h =
    sym (get_or-eq_default (CN1 x y ∷ CN2 x y z ∷ AP x y ∷ DP x y ∷ link_edit d x y z ∷ DT1 x y z ∷ DT2 x y ∷ AS x y ∷ []) (DS x) h)

-- the four bytes of the next edit are those of the first edit of the rest
pub four_next : {A : Type 0} (f : ℕ → ℕ → ℕ → ℕ → A) (s : List ℕ) (k : ℕ) → four_at f s (suc k) ≡ four_at f (drop 4 s) k
four_next f s k =
    let e : 4 * suc k ≡ 4 + 4 * k = omega arith in
    rw e (simp (get_or-drop, add_assoc))

-- as many edits as four go into the length
pub edits-length : (d : ℕ) (s : List ℕ) → length (edits_of d s) ≡ length s / 4
unfolding edits_of
edits-length d [] = refl
edits-length d (o ∷ []) = refl
edits-length d (o ∷ x ∷ []) = refl
edits-length d (o ∷ x ∷ y ∷ []) = refl
edits-length d (o ∷ x ∷ y ∷ z ∷ s) = let ih : length (edits_of d s) ≡ length s / 4 = edits-length d s in omega arith

pub edits-at : (d : ℕ) (s : List ℕ) (k : ℕ) (e : Edit) → k < length s / 4 → get_or (edits_of d s) k e ≡ edit_at d s k
unfolding edits_of
edits-at d [] k e h = absurd (omega arith)
edits-at d (o ∷ []) k e h = absurd (omega arith)
edits-at d (o ∷ x ∷ []) k e h = absurd (omega arith)
edits-at d (o ∷ x ∷ y ∷ []) k e h = absurd (omega arith)
edits-at d (o ∷ x ∷ y ∷ z ∷ s) zero e h = refl
edits-at d (o ∷ x ∷ y ∷ z ∷ s) (suc k) e h = edits-at d s k e (omega arith) ∙ sym (four_next (read_edit d) (o ∷ x ∷ y ∷ z ∷ s) k)

-- the edits from k on
pub edits-drop : (d : ℕ) (s : List ℕ) (k : ℕ) → k < length s / 4 → drop k (edits_of d s) ≡ edit_at d s k ∷ drop (suc k) (edits_of d s)
edits-drop d s k h =
    let l : k < length (edits_of d s) = omega (arith, edits-length d s) in
    drop-cons (edits_of d s) k (DS 0) l ∙ ap (λ e. e ∷ drop (suc k) (edits_of d s)) (edits-at d s k (DS 0) h)

-- an edit's bytes read back as it, in an edition that has it
pub read_back : (d : ℕ) (e : Edit) → in_edition d e ≡ true → (s : List ℕ) → edits_of d (edit_bytes e ++ s) ≡ e ∷ edits_of d s
unfolding edits_of edit_bytes read_edit link_edit in_edition
read_back d (CN1 n1 n2) h s = refl
read_back d (CN2 n1 n2 f) h s = refl
read_back d (AP n p) h s = refl
read_back d (DP n p) h s = refl
read_back d (AT m n1 n2) h s = let e : (same d second && functional m) ≡ false = no_true (not_out _ h) in rw e
read_back d (RT f n1 n2) h s = rw h
read_back d (DT1 m n1 n2) h s = refl
read_back d (DT2 f n) h s = refl
read_back d (AS n k) h s = refl
read_back d (DS n) h s = refl

pub edits-back : (d : ℕ) (es : List Edit) → all_in_edition d es ≡ true → edits_of d (bytes_of es) ≡ es
unfolding edits_of bytes_of all_in_edition
edits-back d [] h = refl
edits-back d (e ∷ es) h =
    read_back d e (and_l _ _ h) (bytes_of es) ∙ ap (λ xs. e ∷ xs) (edits-back d es (and_r (in_edition d e) _ h))

-- edition 1 reads operations 0 to 8 as the nine edits of docs/SPEC.md, "The sheet", without RT
pub read_first : (o x y z : ℕ)
    → read_edit 1 o x y z ≡ get_or (CN1 x y ∷ CN2 x y z ∷ AP x y ∷ DP x y ∷ AT x y z ∷ DT1 x y z ∷ DT2 x y ∷ AS x y ∷ []) o (DS x)
unfolding read_edit link_edit same
read_first o x y z = refl

-- edition 2 adds general links as edition 1 does, and replaces the target of functional ones
pub read_second : (m n1 n2 : ℕ) → (functional m ≡ false → read_edit second 4 m n1 n2 ≡ AT m n1 n2) × (functional m ≡ true → read_edit second 4 m n1 n2 ≡ RT m n1 n2)
unfolding read_edit link_edit same
read_second m n1 n2 = (λ e. rw e, λ e. rw e)

-- what holds of every edit and itself, and of operation 4 in two editions, holds of what is read in them
pub read_both : (R : Edit → Edit → Type 0) (c d x y z : ℕ) → ((e : Edit) → R e e) → R (link_edit c x y z) (link_edit d x y z)
    → (o : ℕ) → R (read_edit c o x y z) (read_edit d o x y z)
unfolding read_edit
read_both R c d x y z r l zero = r (CN1 x y)
read_both R c d x y z r l (suc zero) = r (CN2 x y z)
read_both R c d x y z r l (suc (suc zero)) = r (AP x y)
read_both R c d x y z r l (suc (suc (suc zero))) = r (DP x y)
read_both R c d x y z r l (suc (suc (suc (suc zero)))) = l
read_both R c d x y z r l (suc (suc (suc (suc (suc zero))))) = r (DT1 x y z)
read_both R c d x y z r l (suc (suc (suc (suc (suc (suc zero)))))) = r (DT2 x y)
read_both R c d x y z r l (suc (suc (suc (suc (suc (suc (suc zero))))))) = r (AS x y)
read_both R c d x y z r l (suc (suc (suc (suc (suc (suc (suc (suc o)))))))) = r (DS x)

-- operation 4, as the code tests it
module _ (d m n1 n2 : ℕ) {b : Bool} (e : b ≡ functional m) where
  pub link_second : (same d second && b) ≡ true → RT m n1 n2 ≡ link_edit d m n1 n2
  unfolding link_edit
  link_second p = let q : (same d second && functional m) ≡ true = rw (← e) p in rw q

  pub link_first : (same d second && b) ≡ false → AT m n1 n2 ≡ link_edit d m n1 n2
  unfolding link_edit
  link_first p = let q : (same d second && functional m) ≡ false = rw (← e) p in rw q

-- what is read is an edit of the edition
link_in : (d m n1 n2 : ℕ) → in_edition d (link_edit d m n1 n2) ≡ true
unfolding link_edit in_edition
link_in d m n1 n2 = either (look (same d second && functional m)) (λ e. rw (e, in_edition) e) (λ e. rw (e, in_edition) (ap not e))

pub read_in : (d o x y z : ℕ) → in_edition d (read_edit d o x y z) ≡ true
unfolding read_edit in_edition
read_in d zero x y z = refl
read_in d (suc zero) x y z = refl
read_in d (suc (suc zero)) x y z = refl
read_in d (suc (suc (suc zero))) x y z = refl
read_in d (suc (suc (suc (suc zero)))) x y z = link_in d x y z
read_in d (suc (suc (suc (suc (suc zero))))) x y z = refl
read_in d (suc (suc (suc (suc (suc (suc zero)))))) x y z = refl
read_in d (suc (suc (suc (suc (suc (suc (suc zero))))))) x y z = refl
read_in d (suc (suc (suc (suc (suc (suc (suc (suc o)))))))) x y z = refl

pub four_bytes : (e : Edit) → length (edit_bytes e) ≡ 4
unfolding edit_bytes
four_bytes (CN1 n1 n2) = refl
four_bytes (CN2 n1 n2 f) = refl
four_bytes (AP n p) = refl
four_bytes (DP n p) = refl
four_bytes (AT m n1 n2) = refl
four_bytes (RT f n1 n2) = refl
four_bytes (DT1 m n1 n2) = refl
four_bytes (DT2 f n) = refl
four_bytes (AS n k) = refl
four_bytes (DS n) = refl

pub bytes-length : (es : List Edit) → length (bytes_of es) ≡ 4 * length es
unfolding bytes_of
bytes-length [] = refl
bytes-length (e ∷ es) = omega (arith, length-append (edit_bytes e) (bytes_of es), four_bytes e, bytes-length es)
