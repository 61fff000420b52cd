-- Items 11 and 12 of docs/SPEC.md, "Reasons", with W.
use Rattle.std.specs.Prelude.{List, [], ◌∷◌, Bool, not, ◌&&◌, ◌||◌, cond, ℕ, ◌/◌, ◌%◌, length, get_or, Err}
use Rattle.finite.specs.Tests.{same, below, first}
use Rattle.semantics.specs.Edit.{legal}
use Rattle.verdict.specs.Verdict.{Verdict, Accepted}
use Rattle.verdict.specs.declared.Refusal.TheVariants.{SheetLength, MalformedEdit}
use Rattle.sheet.specs.Bytes.{read_edit, four_at}

-- how many operands the operations 0 to 8 have
unfoldable pub operands : ℕ → ℕ
operands o = get_or (2 ∷ 3 ∷ 2 ∷ 2 ∷ 3 ∷ 3 ∷ 2 ∷ 2 ∷ []) o 1

-- the operands that the operation does not use are 0; each operation uses one at least
unfoldable pub unused_zero : ℕ → ℕ → ℕ → Bool
unused_zero o y z = (below 1 (operands o) || same y 0) && (below 2 (operands o) || same z 0)

-- item 12 is not met by an edit's bytes: a known operation, operands in range and not forbidden, and unused ones 0
-- It is the same in both editions: what is legal in edition 1 is legal in edition 2 (proofs/Laws/Fits, legal_alike)
unfoldable pub edit_fits : ℕ → ℕ → ℕ → ℕ → Bool
edit_fits o x y z = below o 9 && (legal (read_edit 1 o x y z) && unused_zero o y z)

-- item 12 is not met by edit k of a sheet
abbrev pub fits_at : List ℕ → ℕ → Bool
fits_at s k = four_at edit_fits s k

-- edit k of a sheet meets item 12
unfoldable pub faulty : List ℕ → ℕ → Bool
faulty s k = not (fits_at s k)

-- item 11 is not met: a multiple of 4 from 0 to 256 bytes
unfoldable pub sized : List ℕ → Bool
sized s = same (length s % 4) 0 && not (below 256 (length s))

-- W is the lowest faulty edit, counted from 0
unfoldable pub sheet_verdict : List ℕ → Verdict
sheet_verdict s =
    let n : ℕ = length s / 4 in
    let w : ℕ = first n (faulty s) in
    cond (sized s) (cond (below w n) (Err (MalformedEdit w)) Accepted) (Err SheetLength)
