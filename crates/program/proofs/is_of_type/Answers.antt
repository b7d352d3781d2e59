use Rattle.std.proofs.Common.{refl}
use Rattle.node_tests.specs.Tests.{read_tag_test}
use Rattle.node_tests.specs.Readings.{tag_test_of}
use Rattle.sheet.specs.Meaning.{of_type}
use Rattle.program.proofs.TestLaws.{no-type}
use Rattle.program.proofs.is_of_type.Goals as goal

pub returns-in-NthOfType : goal.returns-in-NthOfType
unfolding of_type read_tag_test tag_test_of
returns-in-NthOfType c = rw (← c.part_of.ensures, ← c.get.ensures, ← c.read.ensures, c.in-NthOfType.is) refl

pub returns-in_default : goal.returns-in_default
unfolding read_tag_test
returns-in_default c = rw (← c.part_of.ensures, ← c.get.ensures, ← c.read.ensures) (no-type c.read.result c.in_default.not-NthOfType)
