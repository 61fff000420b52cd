-- A rewritten table is never shorter, so that a table is too long after some edit exactly if it is so at the end.
use Rattle.std.specs.Prelude.{◌≡◌, List, [], ◌∷◌, ◌++◌, ℕ, ◌+◌, ◌≤◌, length, get_or}
use Rattle.std.proofs.Common.{sym, ◌∙◌, arith, length-append}
use Rattle.finite.specs.Tests.{below}
use Rattle.finite.proofs.Laws.Bools.{either, or_r, or_out, both}
use Rattle.finite.proofs.Laws.Below.{below_in, below_out, below-not}
use Rattle.semantics.specs.Edit.{Edit}
use Rattle.semantics.specs.Table.{kind_of, Node}
use Rattle.semantics.specs.Block.{old, root, emit, block, rewrite, rewrite_table, Pass, passed}
use Rattle.through.specs.Through.{own, closing, behind, through_edit}
use Rattle.semantics.proofs.Laws.Emit.{emit-length}
use Rattle.limits.specs.Limits.{table_nodes}
use Rattle.emitting.proofs.Laws.Sizes.{block-some}
use Rattle.rewriting.specs.Refusal.{is_too_long}

rewrite_grows : (e : Edit) (images : List ℕ) (out xs : List Node) → length out + length xs ≤ length (rewrite e images out xs)
unfolding rewrite
rewrite_grows e images out [] = omega arith
rewrite_grows e images out (x ∷ xs) =
    let B = block e (kind_of x.kind) x.param (old (get_or images x.left 0)) (old (get_or images x.right 0)) in
    omega (arith, rewrite_grows e (images ++ (root B (length out) ∷ [])) (out ++ emit B (length out)) xs, length-append out (emit B (length out)), emit-length B (length out), block-some e (kind_of x.kind) x.param (old (get_or images x.left 0)) (old (get_or images x.right 0)))

pub table_grows : (e : Edit) (xs : List Node) → length xs ≤ length (rewrite_table e xs)
unfolding rewrite_table
table_grows e xs = omega (arith, rewrite_grows e [] [] xs)

-- neither does a table with a condition behind it
pub through_grows : (e : Edit) (xs : List Node) → length xs ≤ length (through_edit e xs)
unfolding through_edit behind
through_grows e xs =
    let ys = rewrite_table e xs in
    omega (arith, table_grows e xs, length-append ys (closing (length ys) (own e)))

-- item 14 may be tested at the end
pub too_long_end : (pass : Pass) → ((e : Edit) (xs : List Node) → length xs ≤ length (pass e xs)) → (es : List Edit) (xs : List Node)
    → length xs ≤ table_nodes → is_too_long pass es xs ≡ below table_nodes (length (passed pass es xs))
unfolding is_too_long passed
too_long_end pass g [] xs h = sym (below-not table_nodes (length xs) h)
too_long_end pass g (e ∷ es) xs h =
    both
    (λ p. either (or_out (is_too_long pass es xs) _ p)
    (λ q. below_in table_nodes _ (omega (arith, below_out table_nodes (length (passed pass es xs)) (sym (too_long_end pass g es xs h) ∙ q), g e (passed pass es xs))))
    (λ q. q))
    (λ p. or_r (is_too_long pass es xs) _ p)
