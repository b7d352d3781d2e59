-- The nodes of a sheet as `meaning` speaks of them: when a test holds is said by `node_tests` alone (01, sections 3 and 4).
use Rattle.std.specs.Prelude.{Bool, true, false, List, ◌≡◌, refl, ℕ}
use Rattle.std.proofs.Common.{ap}
use Rattle.meaning.specs.Elements.{html}
use Rattle.meaning.specs.Tests.{Tests}
use Rattle.rules.specs.Attributes.{Attribute}
use Rattle.node_tests.specs.Tests.{Negatable, TagTest, any, unmatchable, local_name, nth_child, nth_of_type, AttributeTest, tag_holds, opposite, tag_test_holds, attribute_test_holds}
use Rattle.node_records.specs.Records.{NodeRecord}

-- Kind 5: the only test that looks at the position among siblings of the same name.
unfoldable pub of_type : TagTest → Bool
of_type any = false
of_type unmatchable = false
of_type (local_name name) = false
of_type (nth_child step offset) = false
of_type (nth_of_type step offset) = true

same-position : (test : TagTest) → of_type test ≡ false → (name : List ℕ) (position i j : ℕ) → tag_holds name position i test ≡ tag_holds name position j test
unfolding of_type tag_holds
same-position any e name position i j = refl
same-position unmatchable e name position i j = refl
same-position (local_name wanted) e name position i j = refl
same-position (nth_child step offset) e name position i j = refl
same-position (nth_of_type step offset) e name position i j = cc

pub not_of_type : (test : Negatable TagTest) → of_type test.test ≡ false → (name : List ℕ) (position i j : ℕ) → tag_test_holds name position i test ≡ tag_test_holds name position j test
unfolding tag_test_holds
not_of_type test e name position i j = ap (opposite test.negated) (same-position test.test e name position i j)

-- Nodes, their tests, and when these hold for a tag and its attributes.
abbrev pub sheet_tests : Tests (List Attribute)
sheet_tests = record {
  D = NodeRecord;
  TagTest = Negatable TagTest;
  AttributeTest = Negatable AttributeTest;
  ids = λ node. node.ids;
  tag_tests = λ node. node.tag_tests;
  attribute_tests = λ node. node.attribute_tests;
  tag_test = λ test position position_of_name tag. tag_test_holds tag.name position position_of_name test;
  attribute_test = λ test tag attributes. attribute_test_holds (html tag) attributes test;
  of_type = λ test. of_type test.test;
  not_of_type = λ test e position i j tag. not_of_type test e tag.name position i j;
}
