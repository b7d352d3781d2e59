use Rattle.node_tests.specs.Tests.{attribute_holds, id_name, class_name}
use Rattle.node_tests.specs.Readings.{attribute_test_of}
use Rattle.node_tests.proofs.attribute_matcher.AttributeMatcher.holds.Goals as goal

pub returns-in-IdIs : goal.returns-in-IdIs
unfolding attribute_holds attribute_test_of id_name
returns-in-IdIs c = rw c.in-IdIs.is c.value_matches.ensures

pub returns-in-HasClass : goal.returns-in-HasClass
unfolding attribute_holds attribute_test_of class_name
returns-in-HasClass c = rw c.in-HasClass.is c.value_matches-in-HasClass.ensures

pub returns-in-Exists : goal.returns-in-Exists
unfolding attribute_holds attribute_test_of
returns-in-Exists c = rw c.in-Exists.is c.has_attribute.ensures

pub returns-in-Unencodable : goal.returns-in-Unencodable
unfolding attribute_holds attribute_test_of
returns-in-Unencodable c = rw c.in-Unencodable.is

pub returns-in-Compares : goal.returns-in-Compares
unfolding attribute_holds attribute_test_of
returns-in-Compares c = rw (c.in-Compares.is, ← c.to_unconditional.ensures) c.value_matches-in-Compares.ensures
