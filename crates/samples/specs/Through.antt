-- Sheets, their conditions for going through node by node, and whether each works on site A. Counted by hand.
use Rattle.std.specs.Prelude.{List, [], ◌∷◌, Bool, true, false}
use Rattle.semantics.specs.Table.{Node, node}
use Rattle.semantics.specs.Edit.{Edit, CN1, AT, RT, DT2, AS, DS}

pub record Foreseen : Type 0 where
  pub edits : List Edit
  pub table : List Node
  pub works : Bool

abbrev foreseen : List Edit → List Node → Bool → Foreseen
foreseen es xs b = record { edits = es; table = xs; works = b }

-- names 1 and 2 are not at nil: n1 nil & <E> ! n2 nil & <E> ! &, and the closing "and"
unfoldable pub neither_at_nil : List Node
neither_at_nil =
    node 0 0 0 0
    ∷ node 3 1 0 0 ∷ node 3 0 0 0 ∷ node 7 0 1 2 ∷ node 8 16 3 0 ∷ node 5 0 4 0
    ∷ node 3 2 0 0 ∷ node 3 0 0 0 ∷ node 7 0 6 7 ∷ node 8 16 8 0 ∷ node 5 0 9 0
    ∷ node 7 0 5 10 ∷ node 7 0 0 11 ∷ []

unfoldable pub foreseens : List Foreseen
foreseens =
    -- no edit, and one that always goes through: the one node true
    foreseen [] (node 0 0 0 0 ∷ []) true
    ∷ foreseen (DT2 4 1 ∷ []) (node 0 0 0 0 ∷ []) true
    -- DS 1: t, then n nil & <E> !, then the closing "and"
    ∷ foreseen (DS 1 ∷ [])
    (node 0 0 0 0 ∷ node 3 1 0 0 ∷ node 3 0 0 0 ∷ node 7 0 1 2 ∷ node 8 16 3 0 ∷ node 5 0 4 0 ∷ node 7 0 0 5 ∷ []) true
    -- AS 3 4: h k & <E> !
    ∷ foreseen (AS 3 4 ∷ [])
    (node 0 0 0 0 ∷ node 1 0 0 0 ∷ node 12 4 0 0 ∷ node 7 0 1 2 ∷ node 8 16 3 0 ∷ node 5 0 4 0 ∷ node 7 0 0 5 ∷ []) true
    -- AS 3 3: slot 3 is present
    ∷ foreseen (AS 3 3 ∷ [])
    (node 0 0 0 0 ∷ node 1 0 0 0 ∷ node 12 3 0 0 ∷ node 7 0 1 2 ∷ node 8 16 3 0 ∷ node 5 0 4 0 ∷ node 7 0 0 5 ∷ []) false
    -- AT 0 1 2, and AT 4 1 2 in edition 2
    ∷ foreseen (AT 0 1 2 ∷ []) neither_at_nil true
    ∷ foreseen (RT 4 1 2 ∷ []) neither_at_nil true
    -- AT 4 1 2 in edition 1: the same, followed by n1 t <m> & <E> ! n1 n2 <m> & <E> | &
    ∷ foreseen (AT 4 1 2 ∷ [])
    (node 0 0 0 0
    ∷ node 3 1 0 0 ∷ node 3 0 0 0 ∷ node 7 0 1 2 ∷ node 8 16 3 0 ∷ node 5 0 4 0
    ∷ node 3 2 0 0 ∷ node 3 0 0 0 ∷ node 7 0 6 7 ∷ node 8 16 8 0 ∷ node 5 0 9 0
    ∷ node 7 0 5 10
    ∷ node 3 1 0 0 ∷ node 0 0 0 0 ∷ node 8 4 13 0 ∷ node 7 0 12 14 ∷ node 8 16 15 0 ∷ node 5 0 16 0
    ∷ node 3 1 0 0 ∷ node 3 2 0 0 ∷ node 8 4 19 0 ∷ node 7 0 18 20 ∷ node 8 16 21 0
    ∷ node 6 0 17 22 ∷ node 7 0 11 23 ∷ node 7 0 0 24 ∷ []) false
    -- AT 4 1 1: slot 2 has another target
    ∷ foreseen (AT 4 1 1 ∷ [])
    (node 0 0 0 0
    ∷ node 3 1 0 0 ∷ node 3 0 0 0 ∷ node 7 0 1 2 ∷ node 8 16 3 0 ∷ node 5 0 4 0
    ∷ node 3 1 0 0 ∷ node 3 0 0 0 ∷ node 7 0 6 7 ∷ node 8 16 8 0 ∷ node 5 0 9 0
    ∷ node 7 0 5 10
    ∷ node 3 1 0 0 ∷ node 0 0 0 0 ∷ node 8 4 13 0 ∷ node 7 0 12 14 ∷ node 8 16 15 0 ∷ node 5 0 16 0
    ∷ node 3 1 0 0 ∷ node 3 1 0 0 ∷ node 8 4 19 0 ∷ node 7 0 18 20 ∷ node 8 16 21 0
    ∷ node 6 0 17 22 ∷ node 7 0 11 23 ∷ node 7 0 0 24 ∷ []) false
    -- CN1 1 2 then DS 1: DS's condition is rewritten through CN1, which adds none
    ∷ foreseen (CN1 1 2 ∷ DS 1 ∷ [])
    (node 0 0 0 0 ∷ node 3 2 0 0 ∷ node 3 0 0 0 ∷ node 7 0 1 2 ∷ node 8 16 3 0 ∷ node 5 0 4 0 ∷ node 7 0 0 5 ∷ []) true
    -- DS 1 then AS 3 4: AS's here becomes h n ! &; DS's own condition is behind it, and is not rewritten through DS
    ∷ foreseen (DS 1 ∷ AS 3 4 ∷ [])
    (node 0 0 0 0
    ∷ node 1 0 0 0 ∷ node 3 1 0 0 ∷ node 5 0 2 0 ∷ node 7 0 1 3 ∷ node 12 4 0 0 ∷ node 7 0 4 5 ∷ node 8 16 6 0 ∷ node 5 0 7 0
    ∷ node 7 0 0 8
    ∷ node 3 1 0 0 ∷ node 3 0 0 0 ∷ node 7 0 10 11 ∷ node 8 16 12 0 ∷ node 5 0 13 0 ∷ node 7 0 9 14 ∷ []) true
    -- DS 1 twice: after the first, name 1 is at nil. The name in the older condition becomes y n ! & nil n y & <E> & |
    ∷ foreseen (DS 1 ∷ DS 1 ∷ [])
    (node 0 0 0 0
    ∷ node 3 1 0 0 ∷ node 3 1 0 0 ∷ node 5 0 2 0 ∷ node 7 0 1 3
    ∷ node 3 0 0 0 ∷ node 3 1 0 0 ∷ node 3 1 0 0 ∷ node 7 0 6 7 ∷ node 8 16 8 0 ∷ node 7 0 5 9 ∷ node 6 0 4 10
    ∷ node 3 0 0 0 ∷ node 7 0 11 12 ∷ node 8 16 13 0 ∷ node 5 0 14 0 ∷ node 7 0 0 15
    ∷ node 3 1 0 0 ∷ node 3 0 0 0 ∷ node 7 0 17 18 ∷ node 8 16 19 0 ∷ node 5 0 20 0 ∷ node 7 0 16 21 ∷ []) false
    ∷ []
