use Rattle.node_tests.specs.Tests.{tag_test_holds, read_tag_test, opposite}
use Rattle.node_tests.proofs.TestLaws.{differs}
use Rattle.node_tests.proofs.tag_test.Goals as goal

pub returns : goal.returns
unfolding tag_test_holds read_tag_test opposite
returns c = rw (← c.is_negated.ensures, ← c.part_of-body.ensures, ← c.get.ensures, ← c.read.ensures, ← c.holds.ensures) (differs _ _)
