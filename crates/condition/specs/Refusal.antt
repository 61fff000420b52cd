-- Items 7 to 10 with W. docs/SPEC.md, "Reasons".
use Rattle.std.specs.Prelude.{List, Bool, not, ◌&&◌, cond, ℕ, ◌-◌, ◌%◌, length, Err}
use Rattle.finite.specs.Tests.{same, below, first}
use Rattle.verdict.specs.Verdict.{Verdict, Accepted, ◌then◌}
use Rattle.verdict.specs.declared.Refusal.TheVariants.{ConditionLength, MalformedNode, EvenRule, FreeVariable}
use Rattle.limits.specs.Limits.{node_size, table_bytes}
use Rattle.semantics.specs.Form.{even, closed}
use Rattle.semantics.specs.Table.{tree_at, form_of, node_fits}
use Rattle.condition.specs.Bytes.{node_at, table_of}

-- item 7 is not met: a multiple of 6 from 6 to 12,288 bytes
unfoldable pub size_fits : ℕ → Bool
size_fits n = same (n % node_size) 0 && (not (below n node_size) && not (below table_bytes n))

-- the lowest node that meets item 8, and the number of nodes where none does
unfoldable pub first_unfit : List ℕ → ℕ
first_unfit S = first (length (table_of S)) (λ i. not (node_fits i (node_at S i)))

-- the lowest mu or nu that breaks the even rule, and the number of nodes where none does
unfoldable pub first_uneven : List ℕ → ℕ
first_uneven S = first (length (table_of S)) (λ i. not (even (tree_at (table_of S) i)))

-- items 7 and 8
unfoldable pub nodes_verdict : List ℕ → Verdict
nodes_verdict S =
    cond (not (size_fits (length S))) (Err ConditionLength)
    (cond (below (first_unfit S) (length (table_of S))) (Err (MalformedNode (first_unfit S))) Accepted)

-- item 9
unfoldable pub even_verdict : List ℕ → Verdict
even_verdict S = cond (below (first_uneven S) (length (table_of S))) (Err (EvenRule (first_uneven S))) Accepted

-- item 10: the last node has a free variable
unfoldable pub closed_verdict : List ℕ → Verdict
closed_verdict S = cond (not (closed (form_of (table_of S)))) (Err (FreeVariable (length (table_of S) - 1))) Accepted

-- the first item met, in the order of their numbers, and its W
unfoldable pub condition_verdict : List ℕ → Verdict
condition_verdict S = nodes_verdict S then even_verdict S then closed_verdict S
