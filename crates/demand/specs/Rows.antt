-- The program that rows in a store hold: what a call reads there, at any address whatever, as `meaning` speaks of programs.
use Rattle.std.specs.Prelude.{◌≡◌, Bool, true, false, List, [], ◌∷◌, map, ℕ, ◌+◌, ◌-◌, ◌*◌, ◌≤◌, length}
use borrow.Author.Tests.{eqb-true, not-false}
use Rattle.names.specs.Names.{name_key}
use Rattle.rules.specs.Attributes.{attributes_of}
use Rattle.sheet.specs.Parser.{node_count, root_count}
use Rattle.id_sets.specs.Ids.{ids_of}
use Rattle.instructions.specs.Instructions.{row_word, tests_end, tag_count, attribute_count, attribute_tests_hold, tag_passes, attribute_passes, asks}
use Rattle.cursors.specs.Cursors.{hangs}
use Rattle.instructions.specs.FoundIds.{with_ids_of}
use Rattle.meaning.specs.Lists.{sum}
use Rattle.meaning.specs.Document.{Link, child, descendant}
use Rattle.meaning.specs.Match.{Way}
use Rattle.meaning.specs.Elements.{Tag, html}
use Rattle.meaning.proofs.Spans.{span}
use Rattle.meaning.specs.Calls.{Program}
use Rattle.demand.specs.Sheets.{Lent}
use Rattle.demand.specs.Words.{node_ids, words-rise, words-united}

module _ (sheet program : List ℕ) where
  abbrev pub roots_of : List ℕ
  roots_of = span 0 (root_count sheet)

  abbrev pub hung_of : Link → ℕ → List ℕ
  hung_of child a = hangs program (node_count sheet) 3 a
  hung_of descendant a = hangs program (node_count sheet) 5 a

  abbrev pub tag_tests_of : ℕ → ℕ → ℕ → Tag → Bool
  tag_tests_of a i j t = tag_passes sheet program t.name (name_key t.name) i j a

  abbrev pub attribute_tests_of : ℕ → Tag → Lent → Bool
  attribute_tests_of a t g = attribute_passes sheet program (html t) (attributes_of g.input g.outlines) a

  pub untested : (a : ℕ) → asks program a ≡ false → (t : Tag) (g : Lent) → attribute_tests_of a t g ≡ true
  unfolding attribute_passes attribute_tests_hold asks
  untested a e t g = let z : attribute_count program a ≡ 0 = eqb-true _ _ (not-false _ e) in rw z

-- The bytes that the tests of instructions take.
abbrev pub bytes_at : (sheet program : List ℕ) → ℕ → ℕ
bytes_at sheet program a = tests_end sheet (tag_count program a + attribute_count program a) (row_word program a 1) - row_word program a 1

abbrev pub test_bytes : (sheet program : List ℕ) → List ℕ → ℕ
test_bytes sheet program xs = sum (map (bytes_at sheet program) xs)

-- A sheet, the rows lent with it, and whether types are counted; without that no test looks at the position among those of the name.
pub record Compiled : Type 0 where
  pub sheet : List ℕ
  pub program : List ℕ
  pub types : Bool
  pub short : length sheet ≤ 65536
  pub few : node_count sheet ≤ 1024
  pub roots_fit : root_count sheet ≤ node_count sheet
  pub room : node_count sheet * 8 ≤ length program
  pub uncounted : types ≡ false → (n : ℕ) → Way (roots_of sheet program) (hung_of sheet program) n → (i j k : ℕ) (t : Tag) → tag_tests_of sheet program n i j t ≡ tag_tests_of sheet program n i k t

abbrev pub rows_program : Compiled → Program Lent
rows_program C = record {
  roots = roots_of C.sheet C.program;
  hung = hung_of C.sheet C.program;
  tag_tests = tag_tests_of C.sheet C.program;
  attribute_tested = asks C.program;
  attribute_tests = attribute_tests_of C.sheet C.program;
  untested = untested C.sheet C.program;
  types_counted = C.types;
  uncounted = C.uncounted;
  ids = node_ids C.sheet C.program;
  Ids = List ℕ;
  unite = with_ids_of C.sheet C.program (0 ∷ 0 ∷ []);
  list = ids_of;
  rising = words-rise;
  united = words-united C.sheet C.program;
}
