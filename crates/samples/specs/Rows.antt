-- The examples: each row is a site, a sheet, a condition and what is expected of them.
use Rattle.std.specs.Prelude.{List, [], ◌∷◌, ◌++◌, Bool, not, ℕ}
use Rattle.finite.specs.Tests.{same}
use Rattle.semantics.specs.Table.{Node, node}
use Rattle.semantics.specs.Edit.{Edit, CN1, CN2, AP, AT, RT, DT1, DT2, AS, DS}
use Rattle.samples.specs.Site.{some, Small, site_a, ring, stranded, crowded}

-- a set of slots: these only, or all but these
pub data Slots : Type 0 where
  only : List ℕ → Slots
  all_but : List ℕ → Slots

unfoldable pub has : Slots → ℕ → Bool
has (only xs) s = some (same s) xs
has (all_but xs) s = not (some (same s) xs)

-- what is expected: the set that the condition lists after the sheet, and the rewritten one today, how many slots it has, how many nodes the
-- rewritten table has, and how many rounds the two lists make (no loop, none); or that edit w is the first that does not go through (item 13);
-- or that node w is the first that breaks the even rule (item 9)
pub data Expected : Type 0 where
  lists : (set : Slots) (size nodes after today : ℕ) → Expected
  stuck_at : (w : ℕ) → Expected
  odd_at : (w : ℕ) → Expected

pub record Row : Type 0 where
  pub site : Small
  pub edits : List Edit
  pub table : List Node
  pub expected : Expected

abbrev pub row : Small → List Edit → List Node → Expected → Row
row a es xs x = record { site = a; edits = es; table = xs; expected = x }

-- R: mu 0 (label 0 or diamond 4 variable 0), 5 nodes
unfoldable pub table_r : List Node
table_r = node 2 0 0 0 ∷ node 4 0 0 0 ∷ node 8 4 1 0 ∷ node 6 0 0 2 ∷ node 10 0 3 0 ∷ []

-- name n
unfoldable pub table_name : ℕ → List Node
table_name n = node 3 n 0 0 ∷ []

-- the reverse of link 4: by a diamond (kind 8) to name n, the target of @n; by a box (9)
unfoldable pub table_reverse : (k n : ℕ) → List Node
table_reverse k n = node 3 n 0 0 ∷ node k 12 0 0 ∷ []

-- diamond 4 variable 0, under the loop of kind k, which is 10 for mu and 11 for nu
unfoldable pub table_loop : ℕ → List Node
table_loop k = node 4 0 0 0 ∷ node 8 4 0 0 ∷ node k 0 1 0 ∷ []

-- label p; and some slot has it
unfoldable pub table_label : ℕ → List Node
table_label p = node 2 p 0 0 ∷ []

unfoldable pub table_some : ℕ → List Node
table_some p = node 2 p 0 0 ∷ node 8 16 0 0 ∷ []

unfoldable pub rows : List Row
rows =
    -- A lists R at {1, 2, 3}, in 4 rounds
    row site_a [] table_r (lists (only (1 ∷ 2 ∷ 3 ∷ [])) 3 5 4 4)
    -- J: after, and rewritten, {1}; 8 nodes
    ∷ row site_a (DT2 4 1 ∷ []) table_r (lists (only (1 ∷ [])) 1 8 2 2)
    -- DS 1: R {1}; 14 nodes. Name 1 goes to 0
    ∷ row site_a (DS 1 ∷ []) table_r (lists (only (1 ∷ [])) 1 14 2 2)
    ∷ row site_a (DS 1 ∷ []) (table_name 1) (lists (only (0 ∷ [])) 1 11 0 0)
    -- CN1 1 2 then DT2 4 1: R {1, 2}; the other order {1}
    ∷ row site_a (CN1 1 2 ∷ DT2 4 1 ∷ []) table_r (lists (only (1 ∷ 2 ∷ [])) 2 8 3 3)
    ∷ row site_a (DT2 4 1 ∷ CN1 1 2 ∷ []) table_r (lists (only (1 ∷ [])) 1 8 2 2)
    -- AS 3 4: condition "name 3" lists {4}. AS 3 3: refused, 13
    ∷ row site_a (AS 3 4 ∷ []) (table_name 3) (lists (only (4 ∷ [])) 1 1 0 0)
    ∷ row site_a (AS 3 3 ∷ []) (table_name 3) (stuck_at 0)
    -- AT 4 1 2: refused, 13. AT 4 1 1: refused, 13
    ∷ row site_a (AT 4 1 2 ∷ []) table_r (stuck_at 0)
    ∷ row site_a (AT 4 1 1 ∷ []) table_r (stuck_at 0)
    -- the same bytes in edition 2: slot 2 leads to slot 3 alone, or to itself, and no longer to slot 1
    ∷ row site_a (RT 4 1 2 ∷ []) table_r (lists (only (1 ∷ [])) 1 14 2 2)
    ∷ row site_a (RT 4 1 2 ∷ []) (node 2 0 0 0 ∷ node 9 4 0 0 ∷ []) (lists (all_but (2 ∷ 3 ∷ [])) 254 12 0 0)
    ∷ row site_a (RT 4 1 2 ∷ []) (table_reverse 8 1) (lists (only (3 ∷ [])) 1 11 0 0)
    ∷ row site_a (RT 4 1 2 ∷ []) (table_reverse 9 1) (lists (all_but (2 ∷ [])) 255 12 0 0)
    ∷ row site_a (RT 4 1 1 ∷ []) (table_reverse 8 1) (lists (only (2 ∷ [])) 1 11 0 0)
    -- to nil, or from it: refused, 13
    ∷ row site_a (RT 4 1 3 ∷ []) table_r (stuck_at 0)
    ∷ row site_a (RT 4 3 1 ∷ []) table_r (stuck_at 0)
    -- the uplinks of the probe at slot 3 lead to no gateway: R {1}. It takes a second one, to the gateway, while the first is live. AT: refused,
    -- 13. RT: R {1, 3}
    ∷ row stranded [] table_r (lists (only (1 ∷ [])) 1 5 2 2)
    ∷ row stranded (AT 4 2 1 ∷ []) table_r (stuck_at 0)
    ∷ row stranded (RT 4 2 1 ∷ []) table_r (lists (only (1 ∷ 3 ∷ [])) 2 14 3 3)
    -- CN2 1 1 4: name 1 at 1. CN2 1 3 4: at 0
    ∷ row site_a (CN2 1 1 4 ∷ []) (table_name 1) (lists (only (1 ∷ [])) 1 11 0 0)
    ∷ row site_a (CN2 1 3 4 ∷ []) (table_name 1) (lists (only (0 ∷ [])) 1 11 0 0)
    -- box 4 of not true: 254 slots
    ∷ row site_a [] (node 0 0 0 0 ∷ node 5 0 0 0 ∷ node 9 4 1 0 ∷ []) (lists (all_but (2 ∷ 3 ∷ [])) 254 3 0 0)
    -- with link 4 also 1 to 3: nu 0 (diamond 4 variable 0) {1, 2, 3}; mu, none
    ∷ row ring [] (table_loop 11) (lists (only (1 ∷ 2 ∷ 3 ∷ [])) 3 3 2 2)
    ∷ row ring [] (table_loop 10) (lists (only []) 0 3 1 1)
    -- variable 0, not, mu 0: refused, 9, W 2. With two nots: empty
    ∷ row site_a [] (node 4 0 0 0 ∷ node 5 0 0 0 ∷ node 10 0 1 0 ∷ []) (odd_at 2)
    ∷ row site_a [] (node 4 0 0 0 ∷ node 5 0 0 0 ∷ node 5 0 1 0 ∷ node 10 0 2 0 ∷ []) (lists (only []) 0 4 1 1)
    -- DT1 4 2 1: diamond 4 R lists {2}. Its block has the diamond twice, with the loop below it: 3 rounds after, and 6 today
    ∷ row site_a (DT1 4 2 1 ∷ []) (table_r ++ (node 8 4 4 0 ∷ [])) (lists (only (2 ∷ [])) 1 22 3 6)
    -- with names 8 to 47 at slot 2: J by name 47
    ∷ row crowded (DT2 4 47 ∷ []) table_r (lists (only (1 ∷ [])) 1 8 2 2)
    -- CN1 47 2 moves name 47 alone
    ∷ row crowded (CN1 47 2 ∷ []) (table_name 47) (lists (only (3 ∷ [])) 1 1 0 0)
    ∷ row crowded (CN1 47 2 ∷ []) (table_name 46) (lists (only (2 ∷ [])) 1 1 0 0)
    -- AT 5 2 47: diamond 5 name 47 lists {3}
    ∷ row crowded (AT 5 2 47 ∷ []) (node 3 47 0 0 ∷ node 8 5 0 0 ∷ []) (lists (only (3 ∷ [])) 1 8 0 0)
    -- DS 47: name 8 goes to 0 as well
    ∷ row crowded (DS 47 ∷ []) (table_name 8) (lists (only (0 ∷ [])) 1 11 0 0)
    -- AP 1 7: some slot has label 7. After CN1 1 0, name 1 is at nil: none has, and the label's own block of 6 nodes lists none
    ∷ row site_a (AP 1 7 ∷ []) (table_some 7) (lists (all_but []) 256 7 0 0)
    ∷ row site_a (CN1 1 0 ∷ AP 1 7 ∷ []) (table_some 7) (lists (only []) 0 7 0 0)
    ∷ row site_a (CN1 1 0 ∷ AP 1 7 ∷ []) (table_label 7) (lists (only []) 0 6 0 0)
    ∷ []
