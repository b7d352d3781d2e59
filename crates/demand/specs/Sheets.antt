-- A sheet as a program of `meaning`: its tests over attributes as they are lent, the layout of its forest, sets of ids as two words.
use Rattle.std.specs.Prelude.{List, [], ◌∷◌, ℕ, ltb}
use Rattle.id_sets.specs.Ids.{ids_of}
use Rattle.rules.specs.Attributes.{attributes_of}
use Rattle.node_records.specs.Records.{NodeRecord}
use Rattle.sheet.specs.Meaning.{sheet_tests}
use Rattle.instructions.specs.FoundIds.{with_ids}
use Rattle.meaning.specs.Lists.{keep, gather}
use Rattle.meaning.specs.Trees.{Forest}
use Rattle.meaning.specs.Tests.{Tests}
use Rattle.meaning.specs.Calls.{Program}
use Rattle.meaning.proofs.Compiled.{compiled}
use Rattle.demand.specs.Words.{words-rise, words_of, low-kept}

-- What is lent with attributes: the input, and the outlines of names and values in it.
pub record Lent : Type 0 where
  pub input : List ℕ
  pub outlines : List ℕ

-- The tests of a sheet, over attributes as they are lent.
abbrev pub lent_tests : Tests Lent
lent_tests = record {
  D = sheet_tests.D;
  TagTest = sheet_tests.TagTest;
  AttributeTest = sheet_tests.AttributeTest;
  ids = sheet_tests.ids;
  tag_tests = sheet_tests.tag_tests;
  attribute_tests = sheet_tests.attribute_tests;
  tag_test = sheet_tests.tag_test;
  attribute_test = λ test tag lent. sheet_tests.attribute_test test tag (attributes_of lent.input lent.outlines);
  of_type = sheet_tests.of_type;
  not_of_type = sheet_tests.not_of_type;
}

-- The layout of a forest, its sets of ids as two words: no id of a good sheet is above 127.
abbrev pub low_ids : Forest NodeRecord → ℕ → List ℕ
low_ids f a = keep (λ i. ltb i 128) ((compiled lent_tests f).ids a)

abbrev pub sheet_program : Forest NodeRecord → Program Lent
sheet_program f = record {
  roots = (compiled lent_tests f).roots;
  hung = (compiled lent_tests f).hung;
  tag_tests = (compiled lent_tests f).tag_tests;
  attribute_tested = (compiled lent_tests f).attribute_tested;
  attribute_tests = (compiled lent_tests f).attribute_tests;
  untested = (compiled lent_tests f).untested;
  types_counted = (compiled lent_tests f).types_counted;
  uncounted = (compiled lent_tests f).uncounted;
  ids = low_ids f;
  Ids = List ℕ;
  unite = λ ns. with_ids (0 ∷ 0 ∷ []) (gather (low_ids f) ns);
  list = ids_of;
  rising = words-rise;
  united = λ ns i. words_of (gather (low_ids f) ns) (low-kept (compiled lent_tests f).ids ns) i;
}
