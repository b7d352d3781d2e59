-- The list holds, by computation.
use Rattle.std.specs.Prelude.{refl}
use Rattle.cells.specs.Numbers.{be16, be32}
use Rattle.cells.specs.Stretches.{cells_or, written}
use Rattle.meaning.specs.Trees.{size}
use Rattle.meaning.specs.Layout.{below}
use Rattle.nth.specs.Nth.{nth_holds}
use Rattle.letters.specs.Bytes.{same_bytes}
use Rattle.id_sets.specs.Ids.{with_id}
use Rattle.names.specs.Names.{void_names, among_names, void_name, hash_of, name_key}
use Rattle.operators.specs.Operators.{empty_bytes, begins_with, prefix_holds, suffix_holds, dash_holds, contains_bytes, substring_holds, parts, split, some_part, includes_holds, operator_holds, value_holds}
use Rattle.rules.specs.Attributes.{lookup}
use Rattle.node_tests.specs.Tests.{ignores_case, attribute_holds, tag_kind, read_tag_test, tag_holds, opposite, tag_test_holds}
use Rattle.node_records.specs.Records.{tests_from, tests_end, record_at}
use Rattle.node_records.specs.Checks.{then_step, kind_ok, name_length_ok, body_ok, check_test, check_tests, rising, check_counts, check_ids, check_record}
use Rattle.sheet.specs.Meaning.{of_type}
use Rattle.sheet.specs.Parser.{and_then, after_step, parse_tree, parse_many, tree_at, parse_trees, parse_end, parse_sheet}
use Rattle.program.specs.Program.{tag_key, test_key, node_key, words, row, rows, any_of_type, uses_nth_of_type}
use Rattle.compiler.specs.Compiler.{compiled_of, store_of}
use Rattle.compiler.specs.Examples.{p10}
use Rattle.instructions.specs.Instructions as instructions
use Rattle.instructions.specs.Instructions.{key_fits, tag_tests_hold, tag_tests_pass, tag_passes, asks}
use Rattle.instructions.specs.FoundIds.{ids_of_node, with_ids, with_ids_of}
use Rattle.cursors.specs.Cursors.{first_cursor, range_at, left_in, ride, rides, later, rest}
use Rattle.exec.specs.Scans.{seek, with_found, tests_taken, within_tests, live, tag_scan}
use Rattle.stack.specs.Stores.{children, one_more, holds_name, counted_rows, counted_names, block_length, bears, bearers, new_ancestors, with_row, pushed, nearest, through, popped_count, back_to, popped_rows, popped_ids, fresh_rows}
use Rattle.shapes.specs.Shapes.{esi_on, types_counted, sized, header_shaped, shaped, state_refusal}
use Rattle.weighing.specs.Weighing.{is_bad_name, tag_refusal, pairs_full, push_refusal, end_refusal}
use Rattle.course.specs.Course.{kind_of, is_html, has_content, child_position, type_position, begin}
use Rattle.accepting.specs.Accepting.{accepted}
use Rattle.tags.specs.Tags.{whole, begun, lowered}
use Rattle.starts.specs.Starts.{start_call}
use Rattle.ends.specs.Ends.{popping, end_call}
use Rattle.making.specs.Making.{fresh_of, fresh_call}
use Rattle.demand.specs.Statement.{words_from}
use Rattle.marked.specs.Marked.{MarkedExamples, p11, p12}

pub computed : MarkedExamples
unfolding nth_holds empty_bytes begins_with prefix_holds suffix_holds dash_holds contains_bytes substring_holds parts split some_part includes_holds operator_holds value_holds lookup ignores_case attribute_holds p10 p11 p12 start_call end_call popping fresh_call fresh_of fresh_rows words_from state_refusal sized shaped header_shaped esi_on types_counted is_bad_name tag_refusal pairs_full push_refusal end_refusal kind_of is_html has_content child_position type_position begin accepted whole begun lowered seek with_found tests_taken within_tests live tag_scan first_cursor range_at left_in ride rides later rest key_fits tag_tests_hold tag_tests_pass tag_passes asks instructions.tests_end ids_of_node with_ids with_ids_of with_id children one_more holds_name counted_rows counted_names block_length bears bearers new_ancestors with_row pushed nearest through popped_count back_to popped_rows popped_ids cells_or written tag_holds opposite tag_test_holds same_bytes void_names among_names void_name hash_of name_key store_of compiled_of size below tag_kind read_tag_test tests_from tests_end record_at be16 be32 then_step kind_ok name_length_ok body_ok check_test check_tests rising check_counts check_ids check_record and_then after_step parse_tree parse_many tree_at parse_trees parse_end parse_sheet of_type any_of_type uses_nth_of_type tag_key test_key node_key words row rows
computed = record { P1 = refl; P2 = refl; P3 = refl; P4 = refl; P5 = refl; P6 = refl; P7 = refl; P8 = refl; P9 = refl; P10 = refl; P11 = refl; P12 = refl }
