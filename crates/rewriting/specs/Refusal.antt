-- Item 14 of docs/SPEC.md, "Reasons".
use Rattle.std.specs.Prelude.{List, [], ◌∷◌, Bool, false, ◌||◌, cond, length, Err}
use Rattle.finite.specs.Tests.{below}
use Rattle.verdict.specs.Verdict.{Verdict, Accepted}
use Rattle.verdict.specs.declared.Refusal.TheVariants.{TableFull}
use Rattle.semantics.specs.Table.{Node}
use Rattle.semantics.specs.Edit.{Edit}
use Rattle.semantics.specs.Block.{Pass, passed}
use Rattle.limits.specs.Limits.{table_nodes}

-- after some edit, the last one first, the table has over 2,048 nodes
unfoldable pub is_too_long : Pass → List Edit → List Node → Bool
is_too_long pass [] xs = false
is_too_long pass (e ∷ es) xs = is_too_long pass es xs || below table_nodes (length (passed pass (e ∷ es) xs))

-- the outcome of that check
unfoldable pub length_verdict : Pass → List Edit → List Node → Verdict
length_verdict pass es xs = cond (is_too_long pass es xs) (Err TableFull) Accepted
