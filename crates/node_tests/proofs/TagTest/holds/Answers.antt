use Rattle.std.proofs.Common.{◌∙◌, rules}
use Rattle.node_tests.proofs.TestLaws.{nth_kept}
use Rattle.node_tests.specs.Tests.{tag_holds}
use Rattle.node_tests.specs.Readings.{tag_test_of}
use Rattle.node_tests.proofs.TagTest.holds.Goals as goal

pub returns-in-Any : goal.returns-in-Any
unfolding tag_holds tag_test_of
returns-in-Any c = rw c.in-Any.is

pub returns-in-Unmatchable : goal.returns-in-Unmatchable
unfolding tag_holds tag_test_of
returns-in-Unmatchable c = rw c.in-Unmatchable.is

pub returns-in-LocalName : goal.returns-in-LocalName
unfolding tag_holds tag_test_of
returns-in-LocalName c = rw c.in-LocalName.is c.same_name.ensures

pub returns-in-NthChild : goal.returns-in-NthChild
unfolding tag_holds tag_test_of
returns-in-NthChild c = rw c.in-NthChild.is (c.nth.ensures ∙ nth_kept _ _ _ (search rules) (search rules))

pub returns-in-NthOfType : goal.returns-in-NthOfType
unfolding tag_holds tag_test_of
returns-in-NthOfType c = rw c.in-NthOfType.is (c.nth-in-NthOfType.ensures ∙ nth_kept _ _ _ (search rules) (search rules))
