-- Rows: those of two lists, and the row of a record that stands in the sheet.
use Prim.Native.Nat.{ℕ, zero, suc, ◌+◌, ◌*◌}
use mathlib.Core.Path.{◌≡◌, refl, sym, ap, ◌∙◌}
use mathlib.Core.List.{List, [], ◌∷◌, ◌++◌, map, append_assoc}
use lib.ListN.{length, get_or, length-map}
use Rattle.cells.specs.Numbers.{be16}
use Rattle.meaning.specs.Document.{Link, child, descendant}
use Rattle.meaning.specs.Trees.{Forest, width, size}
use Rattle.meaning.specs.Layout.{Instruction, ranges}
use Rattle.node_tests.specs.Tests.{read_tag_test, read_attribute_test}
use Rattle.node_records.specs.Records.{NodeRecord, record_at, end_of, tag_count, attribute_count, child_count, descendant_count, tests_at, tests_from, tests_end}
use Rattle.program.specs.Program.{node_key, words, row, rows, instruction_at}

pub rows_append : (xs ys : List (Instruction NodeRecord)) → rows (xs ++ ys) ≡ rows xs ++ rows ys
unfolding rows
rows_append [] ys = refl
rows_append (i ∷ xs) ys = ap (λ (l : List ℕ). row i ++ l) (rows_append xs ys) ∙ sym (append_assoc (row i) (rows xs) (rows ys))

tests-length : (s : List ℕ) (n at : ℕ) → length (tests_from s n at) ≡ n
unfolding tests_from
tests-length s zero at = refl
tests-length s (suc n) at = ap suc (tests-length s n (end_of s at))

-- the row that the sheet's bytes give is the row of their record
row_is : (s : List ℕ) (at children descendants : ℕ) → words at (tests_at s at) (tag_count s at * 256 + attribute_count s at) children (child_count s at) descendants (descendant_count s at) (node_key (map read_tag_test (tests_from s (tag_count s at) (tests_at s at)))) ≡ row (instruction_at s at children descendants)
unfolding row record_at
row_is s at children descendants =
    let t = length-map (tests_from s (tag_count s at) (tests_at s at)) read_tag_test ∙ tests-length s (tag_count s at) (tests_at s at) in
    let u = length-map (tests_from s (attribute_count s at) (tests_end s (tag_count s at) (tests_at s at))) read_attribute_test ∙ tests-length s (attribute_count s at) (tests_end s (tag_count s at) (tests_at s at)) in
    rw (t, u) refl

module _ (s : List ℕ) (at : ℕ) {k : ℕ} (ek : k ≡ get_or s (at + 2) 0) where
  pub row_of : (children descendants : ℕ) {tags attributes c d key : ℕ} → tags ≡ get_or s (at + 3 + k) 0 → attributes ≡ get_or s (at + 3 + k + 1) 0 → c ≡ be16 s (at + 3 + k + 2) → d ≡ be16 s (at + 3 + k + 4) → key ≡ node_key (map read_tag_test (tests_from s tags (at + 3 + k + 6))) →
      words at (at + 3 + k + 6) (tags * 256 + attributes) children c descendants d key ≡ row (instruction_at s at children descendants)
  row_of children descendants et ea ec ed ey = rw (ey, ed, ec, ea, et, ek) (row_is s at children descendants)

  pub links-are : {n c d : ℕ} → n ≡ be16 s at → c ≡ be16 s (at + 3 + k + 2) → d ≡ be16 s (at + 3 + k + 4) → (at + 2 + n ≡ end_of s at) × ((c ≡ child_count s at) × (d ≡ descendant_count s at))
  links-are en ec ed = rw (en, ec, ed, ek) (refl, (refl, refl))

-- and that of the layout's instruction
pub row_same : (s : List ℕ) (at free mid : ℕ) (node : NodeRecord) (k : Link → Forest NodeRecord) → node ≡ record_at s at → width (k child) ≡ child_count s at → width (k descendant) ≡ descendant_count s at → mid ≡ free + size (k child) → row (instruction_at s at free mid) ≡ row (record { says = node; range = ranges free k })
unfolding row
row_same s at free mid node k e a b m = rw (e, a, b, m) refl
