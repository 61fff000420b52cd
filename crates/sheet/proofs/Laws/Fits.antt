-- An edit's four bytes fit just where they are the bytes of a legal edit.
use Rattle.std.specs.Prelude.{◌≡◌, refl, List, [], ◌∷◌, ◌++◌, Bool, true, not, ◌&&◌, ℕ, zero, suc, ◌<◌, leb, ltb}
use Rattle.std.proofs.Common.{◌∙◌, arith, le-leb}
use Rattle.std.proofs.Math.Bool.{and-true, and_assoc}
use Rattle.std.proofs.lemmas.Bool.{lt-leb}
use Rattle.finite.specs.Tests.{same, below}
use Rattle.finite.proofs.Laws.Bools.{either, look, and_in, and_l, and_r}
use Rattle.finite.proofs.Laws.Below.{same_eq, below_in, below_out, not-below}
use Rattle.limits.specs.Limits.{slots, names, links}
use Rattle.editions.specs.Edition.{second}
use Rattle.semantics.specs.Edit.{Edit, CN1, CN2, AP, DP, AT, RT, DT1, DT2, AS, DS, functional, legal}
use Rattle.sheet.specs.Bytes.{link_edit, read_edit, four_at, edit_bytes}
use Rattle.sheet.specs.Refusal.{operands, unused_zero, edit_fits}
use Rattle.sheet.proofs.Laws.Read.{read_both}

from_below : (m n : ℕ) → leb m n ≡ not (below n m)
from_below m n =
    either
    (look (below n m))
    (λ e. rw e (lt-leb m n (below_out n m e)))
    (λ e. rw e (le-leb m n (not-below n m e)))

pub functional_from : (f : ℕ) → (leb 4 f && ltb f 8) ≡ functional f
unfolding functional below
functional_from f = rw (from_below 4 f)

functional_link : (f : ℕ) → functional f ≡ true → below f links ≡ true
unfolding functional
functional_link f p = and_r (not (below f 4)) _ p

-- item 12 speaks of no edition: the same bytes are legal in each
link_legal : (d m n1 n2 : ℕ) → legal (link_edit d m n1 n2) ≡ legal (link_edit 1 m n1 n2)
unfolding link_edit legal same
link_legal d m n1 n2 =
    either
    (look (same d second && functional m))
    (λ e. let f = and_r (same d second) _ e in rw (e, legal, f, functional_link m f))
    (λ e. rw (e, legal))

pub legal_alike : (d o x y z : ℕ) → legal (read_edit d o x y z) ≡ legal (read_edit 1 o x y z)
legal_alike d o x y z = read_both (λ e f. legal e ≡ legal f) d 1 x y z (λ e. refl) (link_legal d x y z) o

-- unused operands 0: the bytes are those of the edit that is read
link_bytes : (d m n1 n2 : ℕ) → edit_bytes (link_edit d m n1 n2) ≡ 4 ∷ m ∷ n1 ∷ n2 ∷ []
unfolding link_edit edit_bytes
link_bytes d m n1 n2 = either (look (same d second && functional m)) (λ e. rw (e, edit_bytes)) (λ e. rw (e, edit_bytes))

unused_bytes : (d o x y z : ℕ) → o < 9 → unused_zero o y z ≡ true → edit_bytes (read_edit d o x y z) ≡ o ∷ x ∷ y ∷ z ∷ []
unfolding unused_zero operands read_edit edit_bytes below
unused_bytes d zero x y z h p = rw (same_eq {m = z} {n = 0} p)
unused_bytes d (suc zero) x y z h p = refl
unused_bytes d (suc (suc zero)) x y z h p = rw (same_eq {m = z} {n = 0} p)
unused_bytes d (suc (suc (suc zero))) x y z h p = rw (same_eq {m = z} {n = 0} p)
unused_bytes d (suc (suc (suc (suc zero)))) x y z h p = link_bytes d x y z
unused_bytes d (suc (suc (suc (suc (suc zero))))) x y z h p = refl
unused_bytes d (suc (suc (suc (suc (suc (suc zero)))))) x y z h p = rw (same_eq {m = z} {n = 0} p)
unused_bytes d (suc (suc (suc (suc (suc (suc (suc zero))))))) x y z h p = rw (same_eq {m = z} {n = 0} p)
unused_bytes d (suc (suc (suc (suc (suc (suc (suc (suc zero)))))))) x y z h p =
    rw (same_eq {m = y} {n = 0} (and_l _ _ p), same_eq {m = z} {n = 0} (and_r (same y 0) _ p))
unused_bytes d (suc (suc (suc (suc (suc (suc (suc (suc (suc o))))))))) x y z h p = absurd (omega arith)

pub fits_legal : (d o x y z : ℕ) → edit_fits o x y z ≡ true → legal (read_edit d o x y z) ≡ true
unfolding edit_fits
fits_legal d o x y z p = legal_alike d o x y z ∙ and_l _ _ (and_r (below o 9) _ p)

pub fits_bytes : (d o x y z : ℕ) → edit_fits o x y z ≡ true → edit_bytes (read_edit d o x y z) ≡ o ∷ x ∷ y ∷ z ∷ []
unfolding edit_fits
fits_bytes d o x y z p =
    unused_bytes d o x y z (below_out o 9 (and_l _ _ p)) (and_r (legal (read_edit 1 o x y z)) _ (and_r (below o 9) _ p))

added_legal : (f n1 n2 : ℕ) → legal (RT f n1 n2) ≡ true → legal (AT f n1 n2) ≡ true
unfolding legal
added_legal f n1 n2 p = and_in (functional_link f (and_l _ _ p)) (and_r (functional f) _ p)

-- the bytes of a legal edit fit
pub bytes_fit : (e : Edit) (s : List ℕ) → legal e ≡ true → four_at edit_fits (edit_bytes e ++ s) 0 ≡ true
unfolding edit_fits unused_zero operands read_edit link_edit edit_bytes below same
bytes_fit (CN1 n1 n2) s p = rw p
bytes_fit (CN2 n1 n2 f) s p = rw p
bytes_fit (AP n q) s p = rw p
bytes_fit (DP n q) s p = rw p
bytes_fit (AT m n1 n2) s p = rw p
bytes_fit (RT f n1 n2) s p = rw (added_legal f n1 n2 p)
bytes_fit (DT1 m n1 n2) s p = rw p
bytes_fit (DT2 f n) s p = rw p
bytes_fit (AS n k) s p = rw p
bytes_fit (DS n) s p = rw p

-- rows of the table whose tests the code makes in another order
and_end : (a b c : Bool) → (a && b && c) ≡ (a && (b && c) && true)
and_end a b c = simp (and_assoc, and-true)

and_mid : (a k c : Bool) → k ≡ true → (a && c) ≡ (a && k && c)
and_mid a k c e = rw (e, and-true)

pub row-CN2 : (x y z : ℕ) → (below x names && not (same x 0) && below y names && functional z) ≡ edit_fits 1 x y z
unfolding edit_fits unused_zero operands read_edit legal below
row-CN2 x y z = and_end (below x names && not (same x 0)) (below y names) (functional z)

pub row-AT : (x y z : ℕ) → (below x links && below y names && below z names) ≡ edit_fits 4 x y z
unfolding edit_fits unused_zero operands read_edit link_edit legal below same
row-AT x y z = and_end (below x links) (below y names) (below z names)

pub row-DT1 : (x y z : ℕ) → (below x links && below y names && below z names) ≡ edit_fits 5 x y z
unfolding edit_fits unused_zero operands read_edit legal below
row-DT1 x y z = and_end (below x links) (below y names) (below z names)

pub row-AS : (x y z : ℕ) → y < slots → (below x names && not (same x 0) && same z 0) ≡ edit_fits 7 x y z
unfolding edit_fits unused_zero operands read_edit legal below
row-AS x y z h = and_mid (below x names && not (same x 0)) (below y slots) (same z 0) (below_in y slots h)

pub row-DS : (x y z : ℕ) → (below x names && same y 0 && same z 0) ≡ edit_fits 8 x y z
unfolding edit_fits unused_zero operands read_edit legal below
row-DS x y z = and_assoc (below x names) (same y 0) (same z 0)
