use borrow.Author.Tests.{le-leb, lt-leb}
use Rattle.rules.specs.Attributes.{lies_within}
use Rattle.rules.proofs.attribute_matcher.lies_within.Goals as goal

pub returns-then-start-end : goal.returns-then-start-end
unfolding lies_within
returns-then-start-end c = rw (le-leb _ _ c.if-start-end.true)

pub returns-else-start-end : goal.returns-else-start-end
unfolding lies_within
returns-else-start-end c = rw (lt-leb _ _ c.if-start-end.false)
