use Rattle.node_tests.specs.Tests.{comparison}
use Rattle.node_tests.specs.Readings.{attribute_test_of}
use Rattle.node_tests.proofs.attribute_matcher.AttributeTest.comparison.Goals as goal

pub returns : goal.returns
unfolding comparison attribute_test_of
returns c = rw (c.get.ensures, c.part_of.ensures, c.part_of-2.ensures, c.number_at-end.ensures.0)
