-- The tests of one instruction (program.rs): the row says where they stand in the sheet, the sheet's bytes say what they are (01, section 1).
use Rattle.std.specs.Prelude.{Bool, true, not, cond, ◌&&◌, List, ℕ, zero, suc, ◌+◌, ◌*◌, ◌/◌, ◌%◌, eqb, get_or}
use Rattle.cells.specs.Numbers.{part, be16}
use Rattle.rules.specs.Attributes.{Attribute}
use Rattle.node_tests.specs.Tests.{tag_test_holds, read_tag_test, attribute_test_holds, read_attribute_test}

-- Word j of the row of instruction a: eight words a row.
abbrev pub row_word : List ℕ → ℕ → ℕ → ℕ
row_word program a j = get_or program (a * 8 + j) 0

-- An instruction has no name key, or the tag's.
unfoldable pub key_fits : List ℕ → ℕ → ℕ → Bool
key_fits program key a = cond (eqb (row_word program a 7) 0) true (eqb (row_word program a 7) key)

-- Where a test ends: its length counts what follows the length.
abbrev pub test_end : List ℕ → ℕ → ℕ
test_end sheet at = at + 2 + be16 sheet at

-- Where so many tests end, one after the other.
unfoldable pub tests_end : List ℕ → ℕ → ℕ → ℕ
tests_end sheet zero at = at
tests_end sheet (suc n) at = tests_end sheet n (test_end sheet at)

-- So many tests from a place on pass, by what a test's bytes say.
unfoldable pub tests_hold : (List ℕ → Bool) → List ℕ → ℕ → ℕ → Bool
tests_hold passes sheet zero at = true
tests_hold passes sheet (suc n) at = passes (part sheet (at + 2) (test_end sheet at)) && tests_hold passes sheet n (test_end sheet at)

-- So many tag tests from a place on hold for a name and its positions.
unfoldable pub tag_tests_hold : List ℕ → List ℕ → ℕ → ℕ → ℕ → ℕ → Bool
tag_tests_hold sheet name child of_type zero at = true
tag_tests_hold sheet name child of_type (suc n) at =
    tag_test_holds name child of_type (read_tag_test (part sheet (at + 2) (test_end sheet at))) && tag_tests_hold sheet name child of_type n (test_end sheet at)

-- So many attribute tests from a place on hold for a namespace (HTML or not) and the tag's attributes.
unfoldable pub attribute_tests_hold : List ℕ → Bool → List Attribute → ℕ → ℕ → Bool
attribute_tests_hold sheet html attributes zero at = true
attribute_tests_hold sheet html attributes (suc n) at =
    attribute_test_holds html attributes (read_attribute_test (part sheet (at + 2) (test_end sheet at))) && attribute_tests_hold sheet html attributes n (test_end sheet at)

-- How many tag tests an instruction has, and how many attribute tests: two bytes of one word.
abbrev pub tag_count : List ℕ → ℕ → ℕ
tag_count program a = row_word program a 2 / 256 % 256

abbrev pub attribute_count : List ℕ → ℕ → ℕ
attribute_count program a = row_word program a 2 % 256

-- All its tag tests hold.
unfoldable pub tag_tests_pass : List ℕ → List ℕ → List ℕ → ℕ → ℕ → ℕ → Bool
tag_tests_pass sheet program name child of_type a = tag_tests_hold sheet name child of_type (tag_count program a) (row_word program a 1)

-- An instruction passes by the tag alone: its key fits, and all its tag tests hold.
unfoldable pub tag_passes : List ℕ → List ℕ → List ℕ → ℕ → ℕ → ℕ → ℕ → Bool
tag_passes sheet program name key child of_type a = key_fits program key a && tag_tests_pass sheet program name child of_type a

-- All its attribute tests hold: they follow its tag tests.
unfoldable pub attribute_passes : List ℕ → List ℕ → Bool → List Attribute → ℕ → Bool
attribute_passes sheet program html attributes a =
    attribute_tests_hold sheet html attributes (attribute_count program a) (tests_end sheet (tag_count program a) (row_word program a 1))

-- It has an attribute test.
unfoldable pub asks : List ℕ → ℕ → Bool
asks program a = not (eqb (attribute_count program a) 0)
