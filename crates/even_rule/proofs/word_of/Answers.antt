-- The word of a node by its kind: one law each.
use Rattle.std.proofs.Common.{arith}
use Rattle.even_rule.proofs.Laws.Shows.{var_few, loop_few, word_none, word_slot, word_var, word-not, word_two, word-step, word-loop}
use Rattle.even_rule.proofs.word_of.Goals as goal

pub returns-then-k-lt-VAR : goal.returns-then-k-lt-VAR
returns-then-k-lt-VAR c = word_none c.requires.fit c.requires.i_in_bounds c.kind-k.ensures c.requires.children c.if-k-lt-VAR.true

pub single-requires : goal.single-requires
single-requires c = let few = var_few c.kind-k.ensures c.if-k-lt-VAR.false c.if-k-lt-NOT.true c.number.ensures.1 in omega (arith, few)

pub returns-then-k-lt-NOT : goal.returns-then-k-lt-NOT
returns-then-k-lt-NOT c = word_var c.requires.fit c.requires.i_in_bounds c.kind-k.ensures c.requires.children c.if-k-lt-VAR.false c.if-k-lt-NOT.true c.number.ensures.0 c.number.ensures.1 c.single.ensures

pub returns-then-k-gt-NU : goal.returns-then-k-gt-NU
returns-then-k-gt-NU c = word_slot c.requires.fit c.requires.i_in_bounds c.kind-k.ensures c.requires.children c.if-k-gt-NU.true

pub returns-then-k-lt-OR : goal.returns-then-k-lt-OR
returns-then-k-lt-OR c = word-not c.requires.fit c.requires.i_in_bounds c.kind-k.ensures c.requires.children c.left_child.ensures.0 c.if-k-lt-NOT.false c.if-k-lt-OR.true c.swapped.ensures

pub returns-then-k-lt-DIA : goal.returns-then-k-lt-DIA
returns-then-k-lt-DIA c = word_two c.requires.fit c.requires.i_in_bounds c.kind-k.ensures c.requires.children c.left_child.ensures.0 c.if-k-lt-OR.false c.if-k-lt-DIA.true c.right_child.ensures.0

pub returns-then-k-lt-MU : goal.returns-then-k-lt-MU
returns-then-k-lt-MU c = word-step c.requires.fit c.requires.i_in_bounds c.kind-k.ensures c.requires.children c.left_child.ensures.0 c.if-k-lt-DIA.false c.if-k-lt-MU.true

pub without-requires : goal.without-requires
without-requires c = let few = loop_few c.kind-k.ensures c.if-k-lt-MU.false c.if-k-gt-NU.false c.number-v.ensures.1 in omega (arith, few)

pub overflow_add-v : goal.overflow_add-v
overflow_add-v c = let few = loop_few c.kind-k.ensures c.if-k-lt-MU.false c.if-k-gt-NU.false c.number-v.ensures.1 in omega (arith, few)

pub without-requires-2 : goal.without-requires-2
without-requires-2 c = let few = loop_few c.kind-k.ensures c.if-k-lt-MU.false c.if-k-gt-NU.false c.number-v.ensures.1 in omega (arith, few)

pub returns : goal.returns
returns c = word-loop c.requires.fit c.requires.i_in_bounds c.kind-k.ensures c.requires.children c.left_child.ensures.0 c.if-k-lt-MU.false c.if-k-gt-NU.false c.number-v.ensures.0 c.number-v.ensures.1 c.without.ensures c.without-2.ensures
