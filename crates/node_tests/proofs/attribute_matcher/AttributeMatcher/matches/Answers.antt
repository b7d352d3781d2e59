use Rattle.node_tests.specs.Tests.{attribute_test_holds, read_attribute_test, opposite}
use Rattle.node_tests.proofs.TestLaws.{differs}
use Rattle.node_tests.proofs.attribute_matcher.AttributeMatcher.matches.Goals as goal

pub returns : goal.returns
unfolding attribute_test_holds read_attribute_test opposite
returns c = rw (← c.is_negated.ensures, ← c.part_of-body.ensures, ← c.get.ensures, ← c.read.ensures, ← c.holds.ensures) (differs _ _)
