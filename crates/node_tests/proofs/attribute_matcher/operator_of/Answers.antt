use borrow.Author.Tests.{ne_eqb}
use Rattle.node_tests.specs.Tests.{operator_of}
use Rattle.node_tests.proofs.attribute_matcher.operator_of.Goals as goal

pub returns-in-20 : goal.returns-in-20
unfolding operator_of
returns-in-20 c = rw c.in-20.is

pub returns-in-21 : goal.returns-in-21
unfolding operator_of
returns-in-21 c = rw c.in-21.is

pub returns-in-22 : goal.returns-in-22
unfolding operator_of
returns-in-22 c = rw c.in-22.is

pub returns-in-23 : goal.returns-in-23
unfolding operator_of
returns-in-23 c = rw c.in-23.is

pub returns-in-24 : goal.returns-in-24
unfolding operator_of
returns-in-24 c = rw c.in-24.is

pub returns-in_default : goal.returns-in_default
unfolding operator_of
returns-in_default c = search ne_eqb
