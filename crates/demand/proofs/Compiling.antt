-- The rows that the compiler writes hold the layout of the forest: its ranges, its tests, its ids.
use Rattle.std.specs.Prelude.{◌≡◌, Bool, false, ◌&&◌, List, [], ◌∷◌, map, length, eqb, leb}
use Rattle.std.proofs.Math.Path.{refl, sym, ap}
use Rattle.std.proofs.Common.{◌∙◌, lt-ltb, ltb-false, ne_eqb}
use Rattle.std.proofs.Math.Option.{some}
use Rattle.std.proofs.Math.Bool.{true, cond, not}
use Rattle.std.proofs.lemmas.Bool.{false≢true, eqb-false}
use Prim.Native.Nat.{ℕ, zero, suc, ◌+◌, ◌-◌, ◌*◌, ◌/◌, ◌<◌, ◌≤◌}
use native.Mathlib.Omega.{arith}
use Rattle.std.proofs.Math.ListN.{get_or}
use Rattle.std.proofs.lemmas.List.{length-map}
use Rattle.std.proofs.lemmas.List.Edits.{sets}
use Rattle.std.proofs.Math.Dec.{ltb}
use Rattle.cells.specs.Numbers.{part}
use Rattle.names.specs.Names.{name_key}
use Rattle.rules.specs.Attributes.{Attribute, attributes_of}
use Rattle.node_tests.specs.Tests.{Negatable, TagTest, read_tag_test, read_attribute_test, tag_test_holds, attribute_test_holds}
use Rattle.node_records.specs.Records as records
use Rattle.node_records.specs.Records.{NodeRecord, record_at, end_of, counts_at, tests_at, tests_from}
use Rattle.node_records.specs.Checks.{rising}
use Rattle.sheet.specs.Parser.{node_count, root_count}
use Rattle.sheet.specs.Spelling.{Sheet}
use Rattle.sheet.proofs.SpellingLaws.{spelt-width}
use Rattle.program.specs.Program.{node_key, words, row, rows}
use Rattle.program.specs.KeyLaws.{key-skips}
use Rattle.compiler.specs.StoreLaws.{instruction-word, same_length, layout-says, Recorded, spelt-recorded}
use Rattle.cursors.specs.Cursors as cursors
use Rattle.instructions.specs.Instructions.{row_word, key_fits, tag_tests_hold, attribute_tests_hold, tag_tests_pass, tag_passes, attribute_passes, asks}
use Rattle.cursors.specs.Cursors.{left_in, hangs}
use Rattle.cursors.specs.CursorLaws.{hangs-whole}
use Rattle.instructions.specs.Instructions as instructions
use Rattle.instructions.specs.FoundIds.{ids_of_node}
use Rattle.meaning.specs.Lists.{every, keep, full}
use Rattle.meaning.specs.Document.{Link, child, descendant}
use Rattle.meaning.specs.Trees.{Forest, end, tree, width, size, some_node}
use Rattle.meaning.specs.Layout.{Instruction, layout, fetch}
use Rattle.meaning.proofs.LayoutLaws.{length-layout}
use Rattle.meaning.specs.Elements.{Tag, html}
use Rattle.meaning.specs.Tests.{of_type_tested}
use Rattle.meaning.specs.Match.{by}
use Rattle.meaning.proofs.Spans.{span, span-mem}
use Rattle.meaning.proofs.Owners.{fetch-below}
use Rattle.meaning.proofs.Shape.{every_way, way-below}
use Rattle.meaning.proofs.Reading.{Reads, laid-uncounted}
use Rattle.meaning.proofs.Compiled.{hung_at}
use Rattle.demand.specs.Sheets.{Lent, lent_tests}
use Rattle.demand.specs.Words.{node_ids}
use Rattle.demand.specs.Rows.{roots_of, hung_of, tag_tests_of, attribute_tests_of, Compiled, rows_program}
use Rattle.demand.proofs.Reading.{spans}

-- ---- tests, one after the other
module _ (s : List ℕ) where
  pub length-tests : (n at : ℕ) → length (tests_from s n at) ≡ n
  unfolding tests_from
  length-tests zero at = refl
  length-tests (suc n) at = ap suc (length-tests n (end_of s at))

  pub ends_same : (n at : ℕ) → instructions.tests_end s n at ≡ records.tests_end s n at
  unfolding instructions.tests_end records.tests_end
  ends_same zero at = refl
  ends_same (suc n) at = ends_same n (end_of s at)

  tags-hold : (name : List ℕ) (i j n at : ℕ) → tag_tests_hold s name i j n at ≡ every (λ t. tag_test_holds name i j t) (map read_tag_test (tests_from s n at))
  unfolding tag_tests_hold tests_from
  tags-hold name i j zero at = refl
  tags-hold name i j (suc n) at = ap (λ b. tag_test_holds name i j (read_tag_test (part s (at + 2) (end_of s at))) && b) (tags-hold name i j n (end_of s at))

  attributes-hold : (html : Bool) (attributes : List Attribute) (n at : ℕ) → attribute_tests_hold s html attributes n at ≡ every (λ t. attribute_test_holds html attributes t) (map read_attribute_test (tests_from s n at))
  unfolding attribute_tests_hold tests_from
  attributes-hold html attributes zero at = refl
  attributes-hold html attributes (suc n) at = ap (λ b. attribute_test_holds html attributes (read_attribute_test (part s (at + 2) (end_of s at))) && b) (attributes-hold html attributes n (end_of s at))

full-count : {A : Type 0} (xs : List A) → not (eqb (length xs) 0) ≡ full xs
full-count [] = refl
full-count (x ∷ xs) = rw (ne_eqb (suc (length xs)) 0 (λ e. omega arith))

-- Low ids are all kept.
keep_low : (least : ℕ) (ids : List ℕ) → rising least ids ≡ true → keep (λ i. ltb i 128) ids ≡ ids
unfolding rising
keep_low least [] e = refl
keep_low least (id ∷ ids) e = go (ltb id least) (ltb 127 id) refl e (keep_low (id + 1) ids)
  where
    go : (a b : Bool) → ltb 127 id ≡ b → cond a false (cond b false (rising (id + 1) ids)) ≡ true → (rising (id + 1) ids ≡ true → keep (λ i. ltb i 128) ids ≡ ids) → keep (λ i. ltb i 128) (id ∷ ids) ≡ id ∷ ids
    go true b q e ih = absurd (false≢true e)
    go false true q e ih = absurd (false≢true e)
    go false false q e ih = let l = ltb-false 127 id q in let r = ih e in rw (lt-ltb id 128 (omega arith), r)

-- A name key only skips what fails.
keyed : (name : List ℕ) (i j : ℕ) (tests : List (Negatable TagTest))
    → (cond (eqb (node_key tests) 0) true (eqb (node_key tests) (name_key name)) && every (λ t. tag_test_holds name i j t) tests) ≡ every (λ t. tag_test_holds name i j t) tests
keyed name i j tests = go (eqb (node_key tests) 0) refl (eqb (node_key tests) (name_key name)) refl
  where
    go : (a : Bool) → eqb (node_key tests) 0 ≡ a → (b : Bool) → eqb (node_key tests) (name_key name) ≡ b → (cond a true b && every (λ t. tag_test_holds name i j t) tests) ≡ every (λ t. tag_test_holds name i j t) tests
    go true e b q = refl
    go false e true q = refl
    go false e false q = sym (key-skips name i j tests (eqb-false _ _ e) (eqb-false _ _ q))

-- A range that a row names is followed whole, if it ends within the limit or is empty.
hang-span : (program : List ℕ) (limit w a first count : ℕ) → row_word program a w ≡ first → get_or program (a * 8 + w + 1) 0 ≡ count → (0 < count → first + count ≤ limit) → hangs program limit w a ≡ span first count
unfolding hangs left_in cursors.span
hang-span program limit w a first zero e q h = rw (e, q) (go (leb (first + 0) limit))
  where
    go : (b : Bool) → cursors.span first (cond b (first + 0 - first) 0) ≡ []
    go true = let z : first + 0 - first ≡ 0 = omega arith in rw z
    go false = refl
hang-span program limit w a first (suc count) e q h =
    let k = h (omega arith) in
    hangs-whole program limit w a (omega arith) ∙ (λ i. cursors.span (e i) (q i)) ∙ spans first (suc count)

-- Every range of a layout that is not empty ends within it.
module _ (f : Forest NodeRecord) where
  range-within : (a : ℕ) (i : Instruction NodeRecord) → fetch (layout 0 f) a ≡ some i → (l : Link) → 0 < (i.range l).count → (i.range l).first + (i.range l).count ≤ size f
  range-within a i e l h =
      let n = fetch-below (layout 0 f) a i e in
      let m = length-layout 0 f in
      let roots = span 0 (width f) in
      let hung = hung_at lent_tests f in
      let laid : (a : ℕ) (i : Instruction NodeRecord) → fetch (layout 0 f) a ≡ some i → (l : Link) → hung_at lent_tests f l a ≡ span (i.range l).first (i.range l).count = λ a i e l. rw e in
      let way = every_way f (span 0 (width f)) (hung_at lent_tests f) refl laid a (omega arith) in
      let last = (i.range l).first + (i.range l).count - 1 in
      let in' = span-mem (i.range l).first (i.range l).count last (omega arith) (omega arith) in
      let k = way-below f (span 0 (width f)) (hung_at lent_tests f) refl laid last (by way l (rw (laid a i e l) in')) in
      omega arith

  width-size : (g : Forest NodeRecord) → width g ≤ size g
  unfolding size
  width-size end = omega arith
  width-size (tree d k g) = let h = width-size g in omega arith

-- ---- the rows of a good sheet
module _ (sheet store : List ℕ) (bytes : (i : ℕ) → get_or sheet i 0 < 256) (f : Forest NodeRecord) (good : Sheet sheet f) (room : size f ≤ length store / 8) where
  abbrev pub prog : List ℕ
  prog = sets store 0 (rows (layout 0 f))

  module _ (a : ℕ) (i : Instruction NodeRecord) (there : fetch (layout 0 f) a ≡ some i) where
    abbrev p : ℕ
    p = i.says.place

    recorded : Recorded sheet i.says
    recorded = layout-says (Recorded sheet) f (spelt-recorded good.spelt) a i there

    word : (j : ℕ) → j < 8 → get_or prog (a * 8 + j) 0 ≡ get_or (row i) j 0
    word j h = instruction-word f store room a j i there h

    word-place : get_or prog (a * 8) 0 ≡ p
    unfolding row words
    word-place = let z : a * 8 ≡ a * 8 + 0 = omega arith in ap (λ (j : ℕ). get_or prog j 0) z ∙ word 0 (omega arith)

    pub word_first : row_word prog a 1 ≡ i.says.first_test
    unfolding row words
    word_first = word 1 (omega arith)

    word_counts : row_word prog a 2 ≡ length i.says.tag_tests * 256 + length i.says.attribute_tests
    unfolding row words
    word_counts = word 2 (omega arith)

    word-key : row_word prog a 7 ≡ node_key i.says.tag_tests
    unfolding row words
    word-key = word 7 (omega arith)

    -- what the record says
    first-is : i.says.first_test ≡ tests_at sheet p
    unfolding record_at
    first-is = ap (λ (n : NodeRecord). n.first_test) recorded.is

    tags-are : i.says.tag_tests ≡ map read_tag_test (tests_from sheet (records.tag_count sheet p) (tests_at sheet p))
    unfolding record_at
    tags-are = ap (λ (n : NodeRecord). n.tag_tests) recorded.is

    attributes-are : i.says.attribute_tests ≡ map read_attribute_test (tests_from sheet (records.attribute_count sheet p) (records.tests_end sheet (records.tag_count sheet p) (tests_at sheet p)))
    unfolding record_at
    attributes-are = ap (λ (n : NodeRecord). n.attribute_tests) recorded.is

    ids-are : i.says.ids ≡ part sheet (p + 3) (counts_at sheet p)
    unfolding record_at
    ids-are = ap (λ (n : NodeRecord). n.ids) recorded.is

    pub tags-many : length i.says.tag_tests ≡ records.tag_count sheet p
    tags-many = ap length tags-are ∙ length-map (tests_from sheet (records.tag_count sheet p) (tests_at sheet p)) read_tag_test ∙ length-tests sheet (records.tag_count sheet p) (tests_at sheet p)

    pub attributes-many : length i.says.attribute_tests ≡ records.attribute_count sheet p
    attributes-many = ap length attributes-are ∙ length-map (tests_from sheet (records.attribute_count sheet p) (records.tests_end sheet (records.tag_count sheet p) (tests_at sheet p))) read_attribute_test ∙ length-tests sheet (records.attribute_count sheet p) (records.tests_end sheet (records.tag_count sheet p) (tests_at sheet p))

    pub tag-count : instructions.tag_count prog a ≡ records.tag_count sheet p
    tag-count = let w = word_counts in let x = tags-many in let y = attributes-many in let u = bytes (counts_at sheet p) in let v = bytes (counts_at sheet p + 1) in omega arith

    pub attribute-count : instructions.attribute_count prog a ≡ records.attribute_count sheet p
    attribute-count = let w = word_counts in let x = tags-many in let y = attributes-many in let u = bytes (counts_at sheet p) in let v = bytes (counts_at sheet p + 1) in omega arith

    pub tags-laid : (j k : ℕ) (t : Tag) → tag_tests_of sheet prog a j k t ≡ every (λ x. lent_tests.tag_test x j k t) (lent_tests.tag_tests i.says)
    unfolding tag_passes key_fits tag_tests_pass
    tags-laid j k t =
        let pass = (λ z. tag_tests_hold sheet t.name j k (tag-count z) ((word_first ∙ first-is) z)) ∙ tags-hold sheet t.name j k (records.tag_count sheet p) (tests_at sheet p) ∙ ap (every (λ x. tag_test_holds t.name j k x)) (sym tags-are) in
        (λ z. cond (eqb (word-key z) 0) true (eqb (word-key z) (name_key t.name)) && pass z) ∙ keyed t.name j k i.says.tag_tests

    pub tested-laid : asks prog a ≡ full (lent_tests.attribute_tests i.says)
    unfolding asks
    tested-laid = ap (λ (n : ℕ). not (eqb n 0)) (attribute-count ∙ sym attributes-many) ∙ full-count i.says.attribute_tests

    pub attributes-laid : (t : Tag) (g : Lent) → attribute_tests_of sheet prog a t g ≡ every (λ x. lent_tests.attribute_test x t g) (lent_tests.attribute_tests i.says)
    unfolding attribute_passes
    attributes-laid t g =
        (λ z. attribute_tests_hold sheet (html t) (attributes_of g.input g.outlines) (attribute-count z) (instructions.tests_end sheet (tag-count z) ((word_first ∙ first-is) z)))
        ∙ ap (λ (n : ℕ). attribute_tests_hold sheet (html t) (attributes_of g.input g.outlines) (records.attribute_count sheet p) n) (ends_same sheet (records.tag_count sheet p) (tests_at sheet p))
        ∙ attributes-hold sheet (html t) (attributes_of g.input g.outlines) (records.attribute_count sheet p) (records.tests_end sheet (records.tag_count sheet p) (tests_at sheet p))
        ∙ ap (every (λ x. attribute_test_holds (html t) (attributes_of g.input g.outlines) x)) (sym attributes-are)

    pub ids-laid : node_ids sheet prog a ≡ lent_tests.ids i.says
    unfolding ids_of_node
    ids-laid =
        (λ z. keep (λ n. ltb n 128) (part sheet (word-place z + 3) (word-place z + 3 + get_or sheet (word-place z + 2) 0)))
        ∙ keep_low 0 (part sheet (p + 3) (counts_at sheet p)) recorded.inside.rises
        ∙ sym ids-are

    pub hung-laid : (l : Link) → hung_of sheet prog l a ≡ span (i.range l).first (i.range l).count
    unfolding row words
    hung-laid child =
        let z : a * 8 + 3 + 1 ≡ a * 8 + 4 = omega arith in
        hang-span prog (node_count sheet) 3 a (i.range child).first (i.range child).count (word 3 (omega arith)) (ap (λ (j : ℕ). get_or prog j 0) z ∙ word 4 (omega arith)) (λ h. let k = range-within f a i there child h in let n = good.nodes in omega arith)
    hung-laid descendant =
        let z : a * 8 + 5 + 1 ≡ a * 8 + 6 = omega arith in
        hang-span prog (node_count sheet) 5 a (i.range descendant).first (i.range descendant).count (word 5 (omega arith)) (ap (λ (j : ℕ). get_or prog j 0) z ∙ word 6 (omega arith)) (λ h. let k = range-within f a i there descendant h in let n = good.nodes in omega arith)

  pub roots-laid : roots_of sheet prog ≡ span 0 (width f)
  roots-laid = ap (span 0) (sym (spelt-width good.spelt))

  pub roots_few : root_count sheet ≤ node_count sheet
  roots_few = let a = spelt-width good.spelt in let b = width-size f f in let c = good.nodes in omega arith

  pub rows-room : node_count sheet * 8 ≤ length prog
  rows-room = let a = same_length f store room in let c = good.nodes in omega arith

  -- The sheet with its rows.
  abbrev pub made : Compiled
  made = record {
    sheet = sheet;
    program = prog;
    types = some_node (of_type_tested lent_tests) f;
    short = good.short;
    few = good.few;
    roots_fit = roots_few;
    room = rows-room;
    uncounted = laid-uncounted lent_tests f (roots_of sheet prog) (hung_of sheet prog) (tag_tests_of sheet prog) roots-laid hung-laid tags-laid;
  }

  pub made_reads : Reads lent_tests f (rows_program made)
  made_reads = record {
    roots = roots-laid;
    hung = hung-laid;
    tag_tests = tags-laid;
    attribute_tested = tested-laid;
    attribute_tests = attributes-laid;
    ids = ids-laid;
    types = refl;
  }
