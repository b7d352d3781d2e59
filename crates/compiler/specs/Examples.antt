-- P10 (01, section 6), on the bytes of a sheet: roots A, B; A has child C and descendant G, C has descendant F.
use Rattle.std.specs.Prelude.{false, List, [], ◌∷◌, ◌≡◌, refl, ℕ, replicate}
use Rattle.cells.specs.Numbers.{be16, be32}
use Rattle.meaning.specs.Trees.{size}
use Rattle.meaning.specs.Layout.{below}
use Rattle.names.specs.Names.{hash_of, name_key}
use Rattle.node_tests.specs.Tests.{tag_kind, read_tag_test}
use Rattle.node_records.specs.Records.{tests_from, tests_end, record_at}
use Rattle.sheet.specs.Meaning.{of_type}
use Rattle.node_records.specs.Checks.{then_step, kind_ok, name_length_ok, comparison_ok, body_ok, check_test, check_tests, rising, check_counts, check_ids, check_record}
use Rattle.sheet.specs.Parser.{and_then, after_step, parse_tree, parse_many, tree_at, parse_trees, parse_end, parse_sheet}
use Rattle.program.specs.Program.{tag_key, test_key, node_key, words, row, rows, any_of_type, uses_nth_of_type}
use Rattle.compiler.specs.Compiler.{compiled_of, store_of}
use Rattle.refusals.specs.Numbers.{Judged}

-- Five records in the order of the sheet, A, C, F, G, B, each with one test, for the local name in small letters.
unfoldable pub p10 : List ℕ
p10 =
    1 ∷ 0 ∷ 0 ∷ 0 ∷ 79 ∷ 0 ∷ 5 ∷ 0 ∷ 2 ∷  -- version, length, N, R
    0 ∷ 12 ∷ 0 ∷ 1 ∷ 0 ∷ 0 ∷ 1 ∷ 0 ∷ 1 ∷ 0 ∷ 3 ∷ 3 ∷ 0 ∷ 97 ∷  -- A at 9: a child, a descendant
    0 ∷ 12 ∷ 0 ∷ 1 ∷ 0 ∷ 0 ∷ 0 ∷ 0 ∷ 1 ∷ 0 ∷ 3 ∷ 3 ∷ 0 ∷ 99 ∷  -- C at 23: a descendant
    0 ∷ 12 ∷ 0 ∷ 1 ∷ 0 ∷ 0 ∷ 0 ∷ 0 ∷ 0 ∷ 0 ∷ 3 ∷ 3 ∷ 0 ∷ 102 ∷  -- F at 37
    0 ∷ 12 ∷ 0 ∷ 1 ∷ 0 ∷ 0 ∷ 0 ∷ 0 ∷ 0 ∷ 0 ∷ 3 ∷ 3 ∷ 0 ∷ 103 ∷  -- G at 51
    0 ∷ 12 ∷ 0 ∷ 1 ∷ 0 ∷ 0 ∷ 0 ∷ 0 ∷ 0 ∷ 0 ∷ 3 ∷ 3 ∷ 0 ∷ 98 ∷  -- B at 65
    []

-- A store with room for six instructions, full of 7.
abbrev pub lent : List ℕ
lent = replicate 48 7

-- A 0, B 1, C 2, F 3, G 4: each row's first word is its record's place. The sixth place is untouched.
pub p10-rows : store_of (parse_sheet p10) lent ≡
    9 ∷ 18 ∷ 256 ∷ 2 ∷ 1 ∷ 4 ∷ 1 ∷ 98 ∷  -- A: child block at 2, descendant block at 4
    65 ∷ 74 ∷ 256 ∷ 5 ∷ 0 ∷ 5 ∷ 0 ∷ 99 ∷  -- B
    23 ∷ 32 ∷ 256 ∷ 3 ∷ 0 ∷ 3 ∷ 1 ∷ 100 ∷  -- C: descendant block at 3
    37 ∷ 46 ∷ 256 ∷ 4 ∷ 0 ∷ 4 ∷ 0 ∷ 103 ∷  -- F
    51 ∷ 60 ∷ 256 ∷ 5 ∷ 0 ∷ 5 ∷ 0 ∷ 104 ∷  -- G
    replicate 8 7
unfolding p10 store_of size below hash_of name_key tag_kind read_tag_test tests_from tests_end record_at be16 be32 then_step kind_ok name_length_ok comparison_ok body_ok check_test check_tests rising check_counts check_ids check_record and_then after_step parse_tree parse_many tree_at parse_trees parse_end parse_sheet tag_key test_key node_key words row rows
p10-rows = refl

pub p10-made : compiled_of (parse_sheet p10) lent ≡ Judged.Good false
unfolding p10 compiled_of size tag_kind read_tag_test tests_from tests_end record_at be16 be32 then_step kind_ok name_length_ok comparison_ok body_ok check_test check_tests rising check_counts check_ids check_record and_then after_step parse_tree parse_many tree_at parse_trees parse_end parse_sheet of_type any_of_type uses_nth_of_type
p10-made = refl
