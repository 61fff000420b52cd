-- A mu or nu whose variable stands in the odd mask.
use Rattle.std.proofs.Common.{arith}
use Rattle.even_rule.proofs.Laws.Check.{keeps_low, keeps_high, breaks}
use Rattle.even_rule.proofs.Laws.Shows.{loop_few}
use Rattle.even_rule.proofs.uneven.Goals as goal

pub returns-then-k-lt-MU : goal.returns-then-k-lt-MU
returns-then-k-lt-MU c = keeps_low c.args.i c.requires.fit c.requires.i_in_bounds c.kind-k.ensures c.if-k-lt-MU.true

pub returns-then-k-gt-NU : goal.returns-then-k-gt-NU
returns-then-k-gt-NU c = keeps_high c.args.i c.requires.fit c.requires.i_in_bounds c.kind-k.ensures c.if-k-gt-NU.true

pub overflow_add-number : goal.overflow_add-number
overflow_add-number c = let few = loop_few c.kind-k.ensures c.if-k-lt-MU.false c.if-k-gt-NU.false c.number.ensures.1 in omega (arith, few)

pub has-requires : goal.has-requires
has-requires c = let few = loop_few c.kind-k.ensures c.if-k-lt-MU.false c.if-k-gt-NU.false c.number.ensures.1 in omega (arith, few)

pub returns : goal.returns
returns c = breaks c.args.i c.requires.fit c.requires.i_in_bounds c.kind-k.ensures c.if-k-lt-MU.false c.if-k-gt-NU.false c.requires.rows c.left_child.ensures.0 c.left_child.ensures.1 c.number.ensures.0 c.number.ensures.1 c.has.ensures
