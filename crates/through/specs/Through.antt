-- The condition for going through: a table, built from the sheet alone, that says beforehand whether the sheet works. docs/SPEC.md, "The condition
-- for going through".
use Rattle.std.specs.Prelude.{List, [], ◌++◌, cond, ℕ, ◌-◌, length}
use Rattle.std.proofs.Math.Option.{Option, none, some}
use Rattle.limits.specs.Limits.{every_way}
use Rattle.semantics.specs.Edit.{Edit, CN1, CN2, AP, DP, AT, RT, DT1, DT2, AS, DS, functional}
use Rattle.semantics.specs.Table.{k_true, k_here, k_slot, Node}
use Rattle.semantics.specs.Block.{Block, old, end, emit, nm, no!, ◌&◌, ◌or◌, ⟨◌⟩◌, rewrite_table, Pass, passed}

-- neither @n1 nor @n2 is nil: n1 nil & <E> ! n2 nil & <E> ! &
abbrev pub neither_nil : ℕ → ℕ → Block
neither_nil n1 n2 = no! (⟨ every_way ⟩ (nm n1 & nm 0)) & no! (⟨ every_way ⟩ (nm n2 & nm 0))

-- @n1 has no m-target, or has @n2: n1 t <m> & <E> ! n1 n2 <m> & <E> |
abbrev pub free_or_there : ℕ → ℕ → ℕ → Block
free_or_there m n1 n2 = no! (⟨ every_way ⟩ (nm n1 & (⟨ m ⟩ end k_true 0))) or (⟨ every_way ⟩ (nm n1 & (⟨ m ⟩ nm n2)))

-- an edit's own condition, and none where it always goes through. AT: n1 nil & <E> ! n2 nil & <E> ! &, for links 4 to 7 followed by
-- n1 t <m> & <E> ! n1 n2 <m> & <E> | &, which falls away for RT. AS: h k & <E> !. DS: n nil & <E> !
unfoldable pub own : Edit → Option Block
own (CN1 n1 n2) = none
own (CN2 n1 n2 f) = none
own (AP n p) = none
own (DP n p) = none
own (AT m n1 n2) = some (cond (functional m) (neither_nil n1 n2 & free_or_there m n1 n2) (neither_nil n1 n2))
own (RT f n1 n2) = some (neither_nil n1 n2)
own (DT1 m n1 n2) = none
own (DT2 f n) = none
own (AS n k) = some (no! (⟨ every_way ⟩ (end k_here 0 & end k_slot k)))
own (DS n) = some (no! (⟨ every_way ⟩ (nm n & nm 0)))

-- a condition and a closing "and" for a table of n nodes, the older table as the left operand
abbrev pub joined : ℕ → Block → Block
joined n B = old (n - 1) & B

-- what is put behind a table of n nodes: a condition and a closing "and"; nothing, where there is none
unfoldable pub closing : ℕ → Option Block → List Node
closing n none = []
closing n (some B) = emit (joined n B) n

unfoldable pub behind : List Node → Option Block → List Node
behind xs o = xs ++ closing (length xs) o

-- through one edit: the table is rewritten, and then the edit's own condition is put behind it
unfoldable pub through_edit : Pass
through_edit e xs = behind (rewrite_table e xs) (own e)

-- the one node true
abbrev pub one_true : List Node
one_true = emit (end k_true 0) 0

-- the table of a sheet, from the last edit to the first
abbrev pub through : List Edit → List Node
through es = passed through_edit es one_true
