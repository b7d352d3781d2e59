use borrow.Author.Tests.{ne_eqb}
use Rattle.node_tests.specs.Tests.{ignores_case}
use Rattle.node_tests.proofs.attribute_matcher.to_unconditional.Goals as goal

pub returns-in-2 : goal.returns-in-2
unfolding ignores_case
returns-in-2 c = rw c.in-2.is

pub returns-in-3 : goal.returns-in-3
unfolding ignores_case
returns-in-3 c = rw c.in-3.is

pub returns-in_default : goal.returns-in_default
unfolding ignores_case
returns-in_default c = search ne_eqb
