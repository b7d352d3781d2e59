-- What the enums of the code say, as tests.
use Rattle.node_tests.specs.Tests.{TagTest, AttributeTest, any, unmatchable, local_name, nth_child, nth_of_type, id_is, has_class, exists, unencodable, compares}
use Rattle.node_tests.specs.declared.TagTest.{TagTest as ReadTagTest}
use Rattle.node_tests.specs.declared.TagTest.TheVariants.{Any, Unmatchable, LocalName, NthChild, NthOfType}
use Rattle.node_tests.specs.declared.attribute_matcher.AttributeTest.{AttributeTest as ReadAttributeTest}
use Rattle.node_tests.specs.declared.attribute_matcher.AttributeTest.TheVariants.{IdIs, HasClass, Exists, Unencodable, Compares}

unfoldable pub tag_test_of : ReadTagTest → TagTest
tag_test_of Any = any
tag_test_of Unmatchable = unmatchable
tag_test_of (LocalName name) = local_name name.now
tag_test_of (NthChild step offset) = nth_child step offset
tag_test_of (NthOfType step offset) = nth_of_type step offset

unfoldable pub attribute_test_of : ReadAttributeTest → AttributeTest
attribute_test_of (IdIs value) = id_is value.now
attribute_test_of (HasClass value) = has_class value.now
attribute_test_of (Exists name) = exists name.now
attribute_test_of Unencodable = unencodable
attribute_test_of (Compares operator case name value) = compares operator case name.now value.now
