-- A copy, or the block of the node's spelling.
use Rattle.std.proofs.Common.{◌≤◌, None, refl, arith}
use Rattle.std.proofs.lemmas.Bool.Decides.{nat_tests}
use Rattle.blocks.proofs.Laws.Rows.{sized_copy}
use Rattle.emitting.proofs.Laws.Copied.{kept}
use Rattle.sheet.specs.Bytes.{edit_of}
use Rattle.spelling.specs.Spelling.{Spells}
use Rattle.emitting.proofs.plan_node.Goals as goal

pub returns-then-not-contains : goal.returns-then-not-contains
returns-then-not-contains c =
    let h : c.args.changed.now.start ≤ c.args.kind → c.args.changed.now.end ≤ c.args.kind = λ p. grind (arith, nat_tests) in
    let S : Spells (edit_of c.args.e) c.args.kind c.args.param None = kept c.args.param c.requires.known (λ p. omega (arith, h (omega arith))) in
    record { spelling = None; spells = S; sized = sized_copy; copy = λ _. S; waiting = refl }

pub returns-in-None : goal.returns-in-None
returns-in-None c =
    let S : Spells (edit_of c.args.e) c.args.kind c.args.param None = rw c.in-None.is at c.spell.ensures in
    record { spelling = None; spells = S; sized = sized_copy; copy = λ _. S; waiting = refl }
