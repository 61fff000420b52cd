-- Operation 4 by its edition.
use Rattle.finite.specs.Tests.{same}
use Rattle.sheet.proofs.Laws.Read.{link_second, link_first}
use Rattle.sheet.proofs.link_edit.Goals as goal

pub returns-then-edition-is_functional : goal.returns-then-edition-is_functional
unfolding same
returns-then-edition-is_functional c = link_second _ _ _ _ c.is_functional.ensures c.if-edition-is_functional.true

pub returns : goal.returns
unfolding same
returns c = link_first _ _ _ _ c.is_functional.ensures c.if-edition-is_functional.false
