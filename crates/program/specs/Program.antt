-- Instruction rows (program.rs): what stands in the store of a compiled sheet.
use Rattle.std.specs.Prelude.{Bool, cond, List, [], ◌∷◌, ◌++◌, ℕ, ◌+◌, ◌*◌, length}
use Rattle.meaning.specs.Document.{child, descendant, by_link}
use Rattle.meaning.specs.Lists.{some}
use Rattle.meaning.specs.Tests.{of_type_tested}
use Rattle.meaning.specs.Trees.{Forest, some_node}
use Rattle.meaning.specs.Layout.{Range, Instruction}
use Rattle.names.specs.Names.{name_key}
use Rattle.node_tests.specs.Tests.{Negatable, TagTest, any, unmatchable, local_name, nth_child, nth_of_type}
use Rattle.node_records.specs.Records.{NodeRecord, record_at, child_count, descendant_count}
use Rattle.sheet.specs.Meaning.{sheet_tests}

-- The key of a local name; 0, which is no name's key, for any other test.
unfoldable pub tag_key : TagTest → ℕ
tag_key any = 0
tag_key unmatchable = 0
tag_key (local_name name) = name_key name
tag_key (nth_child step offset) = 0
tag_key (nth_of_type step offset) = 0

-- A negated test has no key: it says of no name that it is the wanted one.
unfoldable pub test_key : Negatable TagTest → ℕ
test_key t = cond t.negated 0 (tag_key t.test)

-- A node's name key is that of its first tag test.
unfoldable pub node_key : List (Negatable TagTest) → ℕ
node_key [] = 0
node_key (t ∷ tests) = test_key t

-- The eight words of a row: the record's place, its first test's place, its numbers of tests, first and count of the child block, first and count of the descendant block, name key.
unfoldable pub words : (place test counts child_first child_count descendant_first descendant_count key : ℕ) → List ℕ
words place test counts child_first child_count descendant_first descendant_count key =
    place ∷ test ∷ counts ∷ child_first ∷ child_count ∷ descendant_first ∷ descendant_count ∷ key ∷ []

-- The row of an instruction. Both numbers of tests share a word: each is a byte of the record.
unfoldable pub row : Instruction NodeRecord → List ℕ
row i =
    words i.says.place i.says.first_test (length i.says.tag_tests * 256 + length i.says.attribute_tests)
    (i.range child).first (i.range child).count
    (i.range descendant).first (i.range descendant).count
    (node_key i.says.tag_tests)

-- The rows of instructions, one after the other.
unfoldable pub rows : List (Instruction NodeRecord) → List ℕ
rows [] = []
rows (i ∷ instructions) = row i ++ rows instructions

-- Some test is of kind 5, also negated.
unfoldable pub any_of_type : List (Negatable TagTest) → Bool
any_of_type tests = some sheet_tests.of_type tests

-- Nth-of-type is in use when any node has such a test, also where it can never be live.
unfoldable pub uses_nth_of_type : Forest NodeRecord → Bool
uses_nth_of_type forest = some_node (of_type_tested sheet_tests) forest

-- The instruction of the record at a place, its blocks at two addresses.
abbrev pub instruction_at : List ℕ → (at children descendants : ℕ) → Instruction NodeRecord
instruction_at s at children descendants = record {
  says = record_at s at;
  range = by_link (λ _. Range) (record { first = children; count = child_count s at }) (record { first = descendants; count = descendant_count s at });
}
