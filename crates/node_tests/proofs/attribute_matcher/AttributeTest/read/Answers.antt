use Rattle.std.proofs.Common.{sym, ◌∙◌, arith}
use borrow.Author.Tests.{ne_eqb, lt-ltb}
use Rattle.node_tests.specs.Tests.{attribute_kind}
use Rattle.node_tests.specs.Readings.{attribute_test_of}
use Rattle.node_tests.proofs.TestLaws.{compared, past}
use Rattle.node_tests.proofs.attribute_matcher.AttributeTest.read.Goals.{in_default-via-then-kind-lt20, in_default-via-else-kind-lt20+else-kind-lt26}
use Rattle.node_tests.proofs.attribute_matcher.AttributeTest.read.Goals as goal

pub returns-in-16 : goal.returns-in-16
unfolding attribute_kind attribute_test_of
returns-in-16 c = rw c.in-16.is

pub returns-in-17 : goal.returns-in-17
unfolding attribute_kind attribute_test_of
returns-in-17 c = rw c.in-17.is

pub returns-in-18 : goal.returns-in-18
unfolding attribute_kind attribute_test_of
returns-in-18 c = rw c.in-18.is

pub returns-in-20-to-25 : goal.returns-in-20-to-25
returns-in-20-to-25 c = c.comparison.ensures ∙ rw c.operator_of.ensures (sym (compared _ _ (omega arith) (omega arith)))

pub returns-in_default : goal.returns-in_default
unfolding attribute_kind attribute_test_of
returns-in_default c = elim c.in_default.branch [ in_default-via-then-kind-lt20 w ↦ search (ne_eqb, lt-ltb) | in_default-via-else-kind-lt20+else-kind-lt26 w ↦ past c.args.kind c.args.body.now (omega arith) ]
