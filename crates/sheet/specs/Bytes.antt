-- A sheet as bytes, four to an edit: the operation, then the operands in the order of docs/SPEC.md, "The sheet", unused ones 0. Its edition
-- stands beside it.
use Rattle.std.specs.Prelude.{List, [], ◌∷◌, ◌++◌, Bool, true, not, ◌&&◌, cond, ℕ, ◌+◌, ◌*◌, get_or}
use Rattle.finite.specs.Tests.{same}
use Rattle.editions.specs.Edition.{second}
use Rattle.semantics.specs.Edit.{Edit, CN1, CN2, AP, DP, AT, RT, DT1, DT2, AS, DS, functional}
use Rattle.sheet.specs.declared.Op.{Op}
use Rattle.sheet.specs.declared.Op.TheVariants.{Cn1, Cn2, Ap, Dp, At, Dt1, Dt2, As, Ds, Rt}

-- operation 4 in edition d: in edition 2, on a functional link, it replaces the old target. An edition other than 1 and 2 is refused by
-- item 18 and read as 1 here
unfoldable pub link_edit : (d m n1 n2 : ℕ) → Edit
link_edit d m n1 n2 = cond (same d second && functional m) (RT m n1 n2) (AT m n1 n2)

-- the edit with the operation o, 0 to 8, and the operands x, y and z; an operation above 8 is refused by item 12 and read as 8 here
unfoldable pub read_edit : (d o x y z : ℕ) → Edit
read_edit d o x y z =
    get_or (CN1 x y ∷ CN2 x y z ∷ AP x y ∷ DP x y ∷ link_edit d x y z ∷ DT1 x y z ∷ DT2 x y ∷ AS x y ∷ []) o (DS x)

-- what f says of the four bytes of edit k of a sheet
abbrev pub four_at : {A : Type 0} → (ℕ → ℕ → ℕ → ℕ → A) → List ℕ → ℕ → A
four_at f s k = f (get_or s (4 * k) 0) (get_or s (4 * k + 1) 0) (get_or s (4 * k + 2) 0) (get_or s (4 * k + 3) 0)

-- edit k of a sheet
abbrev pub edit_at : (d : ℕ) → List ℕ → ℕ → Edit
edit_at d s k = four_at (read_edit d) s k

-- the edits of a sheet; fewer than four bytes at its end are refused by item 11 and left out here
unfoldable pub edits_of : (d : ℕ) → List ℕ → List Edit
edits_of d [] = []
edits_of d (o ∷ []) = []
edits_of d (o ∷ x ∷ []) = []
edits_of d (o ∷ x ∷ y ∷ []) = []
edits_of d (o ∷ x ∷ y ∷ z ∷ s) = read_edit d o x y z ∷ edits_of d s

-- the bytes of an edit, and of a sheet
unfoldable pub edit_bytes : Edit → List ℕ
edit_bytes (CN1 n1 n2) = 0 ∷ n1 ∷ n2 ∷ 0 ∷ []
edit_bytes (CN2 n1 n2 f) = 1 ∷ n1 ∷ n2 ∷ f ∷ []
edit_bytes (AP n p) = 2 ∷ n ∷ p ∷ 0 ∷ []
edit_bytes (DP n p) = 3 ∷ n ∷ p ∷ 0 ∷ []
edit_bytes (AT m n1 n2) = 4 ∷ m ∷ n1 ∷ n2 ∷ []
edit_bytes (RT f n1 n2) = 4 ∷ f ∷ n1 ∷ n2 ∷ []
edit_bytes (DT1 m n1 n2) = 5 ∷ m ∷ n1 ∷ n2 ∷ []
edit_bytes (DT2 f n) = 6 ∷ f ∷ n ∷ 0 ∷ []
edit_bytes (AS n k) = 7 ∷ n ∷ k ∷ 0 ∷ []
edit_bytes (DS n) = 8 ∷ n ∷ 0 ∷ 0 ∷ []

unfoldable pub bytes_of : List Edit → List ℕ
bytes_of [] = []
bytes_of (e ∷ es) = edit_bytes e ++ bytes_of es

-- edition d has the edit: of AT and RT on a functional link, edition 2 has RT and edition 1 AT
unfoldable pub in_edition : ℕ → Edit → Bool
in_edition d (CN1 n1 n2) = true
in_edition d (CN2 n1 n2 f) = true
in_edition d (AP n p) = true
in_edition d (DP n p) = true
in_edition d (AT m n1 n2) = not (same d second && functional m)
in_edition d (RT f n1 n2) = same d second && functional f
in_edition d (DT1 m n1 n2) = true
in_edition d (DT2 f n) = true
in_edition d (AS n k) = true
in_edition d (DS n) = true

unfoldable pub all_in_edition : ℕ → List Edit → Bool
all_in_edition d [] = true
all_in_edition d (e ∷ es) = in_edition d e && all_in_edition d es

-- the code's edits, case by case
abbrev pub edit_of : Op → Edit
edit_of (Cn1 n1 n2) = CN1 n1 n2
edit_of (Cn2 n1 n2 f) = CN2 n1 n2 f
edit_of (Ap n p) = AP n p
edit_of (Dp n p) = DP n p
edit_of (At m n1 n2) = AT m n1 n2
edit_of (Dt1 m n1 n2) = DT1 m n1 n2
edit_of (Dt2 f n) = DT2 f n
edit_of (As n k) = AS n k
edit_of (Ds n) = DS n
edit_of (Rt f n1 n2) = RT f n1 n2
