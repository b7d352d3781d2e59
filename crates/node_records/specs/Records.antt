-- What the bytes of a node record say (01, section 1). A record or a test stands at the offset of its length field.
use Rattle.std.specs.Prelude.{List, [], ◌∷◌, map, ℕ, zero, suc, ◌+◌, get_or}
use Rattle.cells.specs.Numbers.{part, be16}
use Rattle.node_tests.specs.Tests.{Negatable, TagTest, AttributeTest, read_tag_test, read_attribute_test}

-- Where the record or test at a place ends: its length counts what follows the length field.
abbrev pub end_of : List ℕ → ℕ → ℕ
end_of s at = at + 2 + be16 s at

-- The bytes of a test after its length: kind, negation, body.
abbrev pub test_bytes : List ℕ → ℕ → List ℕ
test_bytes s at = part s (at + 2) (end_of s at)

-- The bytes of so many tests, one after the other.
unfoldable pub tests_from : List ℕ → ℕ → ℕ → List (List ℕ)
tests_from s zero at = []
tests_from s (suc n) at = test_bytes s at ∷ tests_from s n (end_of s at)

-- Where so many tests end.
unfoldable pub tests_end : List ℕ → ℕ → ℕ → ℕ
tests_end s zero at = at
tests_end s (suc n) at = tests_end s n (end_of s at)

-- Where a record's four numbers stand: after its length, the number of its ids, and the ids.
abbrev pub counts_at : List ℕ → ℕ → ℕ
counts_at s at = at + 3 + get_or s (at + 2) 0

-- The four numbers: tag tests, attribute tests, child trees, descendant trees.
abbrev pub tag_count : List ℕ → ℕ → ℕ
tag_count s at = get_or s (counts_at s at) 0

abbrev pub attribute_count : List ℕ → ℕ → ℕ
attribute_count s at = get_or s (counts_at s at + 1) 0

abbrev pub child_count : List ℕ → ℕ → ℕ
child_count s at = be16 s (counts_at s at + 2)

abbrev pub descendant_count : List ℕ → ℕ → ℕ
descendant_count s at = be16 s (counts_at s at + 4)

-- Where a record's tests begin.
abbrev pub tests_at : List ℕ → ℕ → ℕ
tests_at s at = counts_at s at + 6

-- What a node's own record says, and where it and its first test stand.
pub record NodeRecord : Type 0 where
  pub place : ℕ
  pub first_test : ℕ
  pub ids : List ℕ
  pub tag_tests : List (Negatable TagTest)
  pub attribute_tests : List (Negatable AttributeTest)

-- The record at a place, tests in the terms of `node_tests`.
unfoldable pub record_at : List ℕ → ℕ → NodeRecord
record_at s at = record {
  place = at;
  first_test = tests_at s at;
  ids = part s (at + 3) (counts_at s at);
  tag_tests = map read_tag_test (tests_from s (tag_count s at) (tests_at s at));
  attribute_tests = map read_attribute_test (tests_from s (attribute_count s at) (tests_end s (tag_count s at) (tests_at s at)));
}
