-- The tests of distinct nodes take in sum no more bytes than the sheet has, and are at most a quarter as many.
use Rattle.std.specs.Prelude.{◌≡◌, Bool, true, false, not, List, [], ◌∷◌, ◌++◌, map, ℕ, zero, suc, ◌+◌, ◌-◌, ◌/◌, ◌<◌, ◌≤◌, length, get_or, T, eqb}
use Rattle.std.proofs.Math.Path.{refl}
use Rattle.std.proofs.Common.{sym, ◌∙◌, ap, ap₂, eq-eqb, eqb-true}
use Rattle.std.proofs.Math.Option.{some}
use native.Mathlib.Omega.{arith}
use Rattle.std.proofs.lemmas.List.{length-map}
use Rattle.node_tests.specs.Tests.{read_tag_test, read_attribute_test}
use Rattle.node_records.specs.Records.{NodeRecord, record_at, end_of, tag_count, attribute_count, tests_at, tests_end, tests_from}
use Rattle.sheet.specs.Spelling.{Inside, Spells, Sheet}
use Rattle.instructions.specs.Instructions.{row_word}
use Rattle.instructions.specs.Instructions as instructions
use Rattle.meaning.specs.Lists.{◌∈◌, here, there, Distinct, keep, put_if, sum}
use Rattle.meaning.proofs.ListLaws.{mem-keep}
use Rattle.meaning.specs.Document.{child, descendant}
use Rattle.meaning.specs.Trees.{Forest, end, tree, width, size}
use Rattle.meaning.specs.Layout.{Instruction, begins, ends, block, below, layout, fetch}
use Rattle.meaning.proofs.LayoutLaws.{length-layout}
use Rattle.meaning.proofs.Spans.{span, span-mem}
use Rattle.demand.proofs.Compiling.{length-tests, ends_same, prog, word_first, tags-many, attributes-many, tag-count, attribute-count}

-- ---- weights of numbers, each counted once
module _ (w : ℕ → ℕ) where
  abbrev weight : List ℕ → ℕ
  weight xs = sum (map w xs)

  weight-keep : (p : ℕ → Bool) (xs : List ℕ) → weight (keep p xs) ≤ weight xs
  weight-keep p [] = omega arith
  weight-keep p (x ∷ xs) = go (p x) (weight-keep p xs)
    where
      go : (b : Bool) → weight (keep p xs) ≤ weight xs → weight (put_if b x (keep p xs)) ≤ w x + weight xs
      go true h = omega arith
      go false h = omega arith

  weight-without : (x : ℕ) (ys : List ℕ) → x ∈ ys → w x + weight (keep (λ y. not (eqb x y)) ys) ≤ weight ys
  weight-without x (y ∷ ys) (here e) = let k = weight-keep (λ y. not (eqb x y)) ys in let z = ap w e in rw (eq-eqb x y e) (omega arith)
  weight-without x (y ∷ ys) (there m) = go (not (eqb x y)) (weight-without x ys m)
    where
      go : (b : Bool) → w x + weight (keep (λ y. not (eqb x y)) ys) ≤ weight ys → w x + weight (put_if b y (keep (λ y. not (eqb x y)) ys)) ≤ w y + weight ys
      go true h = omega arith
      go false h = omega arith
  weight-without x [] x'' = elim x'' [ ]

  differs : (x y : ℕ) → ¬ (x ≡ y) → T (not (eqb x y))
  differs x y n = go (eqb x y) refl
    where
      go : (b : Bool) → eqb x y ≡ b → T (not b)
      go true e = absurd (n (eqb-true x y e))
      go false e = tt

  weight-within : (xs ys : List ℕ) → Distinct xs → ((x : ℕ) → x ∈ xs → x ∈ ys) → weight xs ≤ weight ys
  weight-within [] ys d h = omega arith
  weight-within (x ∷ xs) ys (n, d) h =
      let a = weight-within xs (keep (λ y. not (eqb x y)) ys) d (λ z m. mem-keep (λ y. not (eqb x y)) ys (h z (there m)) (differs x z (λ e. n (rw e m)))) in
      let b = weight-without x ys (h x (here refl)) in
      omega arith

-- ---- weights of nodes, each at most as heavy as its record is long
module _ (w : NodeRecord → ℕ) where
  unfoldable weight_in : Forest NodeRecord → ℕ
  weight_in end = 0
  weight_in (tree node k f) = w node + weight_in (k child) + weight_in (k descendant) + weight_in f

  abbrev total : List (Instruction NodeRecord) → ℕ
  total xs = sum (map (λ i. w i.says) xs)

  total-cat : (xs ys : List (Instruction NodeRecord)) → total (xs ++ ys) ≡ total xs + total ys
  total-cat [] ys = omega arith
  total-cat (x ∷ xs) ys = let h = total-cat xs ys in omega arith

  total-below : (m : ℕ) (f : Forest NodeRecord) → total (block m f) + total (below m f) ≡ weight_in f
  unfolding below weight_in
  total-below m end = refl
  total-below m (tree node k f) =
      let m₁ = begins m k child + width (k child) in
      let m₂ = begins m k descendant + width (k descendant) in
      let a = total-below m₁ (k child) in
      let b = total-below m₂ (k descendant) in
      let c = total-below (ends m k) f in
      let x = total-cat (block m₁ (k child)) (below m₁ (k child)) in
      let y = total-cat (block m₂ (k descendant)) (below m₂ (k descendant)) in
      let z = total-cat (block m₂ (k descendant) ++ below m₂ (k descendant)) (below (ends m k) f) in
      let v = total-cat (block m₁ (k child) ++ below m₁ (k child)) ((block m₂ (k descendant) ++ below m₂ (k descendant)) ++ below (ends m k) f) in
      omega arith

  total-layout : (f : Forest NodeRecord) → total (layout 0 f) ≡ weight_in f
  total-layout f = total-cat (block (0 + width f) f) (below (0 + width f) f) ∙ total-below (0 + width f) f

  total-span : (v : ℕ → ℕ) (xs : List (Instruction NodeRecord)) (b : ℕ) → ((a : ℕ) (i : Instruction NodeRecord) → fetch xs a ≡ some i → v (b + a) ≡ w i.says) → sum (map v (span b (length xs))) ≡ total xs
  total-span v [] b h = refl
  total-span v (x ∷ xs) b h =
      let z : b + 0 ≡ b = omega arith in
      let e : v b ≡ w x.says = ap v (sym z) ∙ h 0 x refl in
      ap₂ (λ (u v : ℕ). u + v) e (total-span v xs (suc b) (λ a i q. let y : suc b + a ≡ b + suc a = omega arith in ap v y ∙ h (suc a) i q))

  module _ (s : List ℕ) (light : (at : ℕ) (node : NodeRecord) → node ≡ record_at s at → Inside s at → at + w node ≤ end_of s at) where
    spelt-weight : {depth n at m : ℕ} {f : Forest NodeRecord} → Spells s depth n at f m → at + weight_in f ≤ m
    unfolding weight_in
    spelt-weight (Spells.none a b) = omega arith
    spelt-weight {at = at} (Spells.more {node = node} p q hn hd e i c d t) =
        let a = light at node e i in
        let x = spelt-weight c in
        let y = spelt-weight d in
        let z = spelt-weight t in
        omega arith

    -- Distinct nodes weigh together no more than the sheet is long.
    sheet-weight : (f : Forest NodeRecord) → Sheet s f → (v : ℕ → ℕ) → ((a : ℕ) (i : Instruction NodeRecord) → fetch (layout 0 f) a ≡ some i → v a ≡ w i.says) → (xs : List ℕ) → Distinct xs → ((x : ℕ) → x ∈ xs → x < size f) → sum (map v xs) ≤ length s
    sheet-weight f good v same xs d h =
        let l = length-layout 0 f in
        let a = weight-within v xs (span 0 (length (layout 0 f))) d (λ x m. let k = h x m in span-mem 0 (length (layout 0 f)) x (omega arith) (omega arith)) in
        let b = total-span v (layout 0 f) 0 (λ a i e. let z : 0 + a ≡ a = omega arith in ap v z ∙ same a i e) in
        let c = total-layout f in
        let e = spelt-weight good.spelt in
        omega arith

-- ---- tests, and their bytes
abbrev tests_of : NodeRecord → ℕ
tests_of node = length node.tag_tests + length node.attribute_tests

record-tests : (s : List ℕ) (at : ℕ) (node : NodeRecord) → node ≡ record_at s at → tests_of node ≡ tag_count s at + attribute_count s at
unfolding record_at
record-tests s at node e =
    ap tests_of e
    ∙ ap₂ (λ (x y : ℕ). x + y) (length-map (tests_from s (tag_count s at) (tests_at s at)) read_tag_test ∙ length-tests s (tag_count s at) (tests_at s at))
    (length-map (tests_from s (attribute_count s at) (tests_end s (tag_count s at) (tests_at s at))) read_attribute_test ∙ length-tests s (attribute_count s at) (tests_end s (tag_count s at) (tests_at s at)))

record-first : (s : List ℕ) (at : ℕ) (node : NodeRecord) → node ≡ record_at s at → node.first_test ≡ tests_at s at
unfolding record_at
record-first s at node e = ap (λ (n : NodeRecord). n.first_test) e

tests-after : (s : List ℕ) (n m at : ℕ) → tests_end s (n + m) at ≡ tests_end s m (tests_end s n at)
unfolding tests_end
tests-after s zero m at = let z : 0 + m ≡ m = omega arith in rw z
tests-after s (suc n) m at = let z : suc n + m ≡ suc (n + m) = omega arith in rw z (tests-after s n m (end_of s at))

-- The bytes that a node's tests take.
abbrev bytes_of : List ℕ → NodeRecord → ℕ
bytes_of s node = tests_end s (tests_of node) node.first_test - node.first_test

bytes-light : (s : List ℕ) (at : ℕ) (node : NodeRecord) → node ≡ record_at s at → Inside s at → at + bytes_of s node ≤ end_of s at
bytes-light s at node e i =
    let d : tests_end s (tests_of node) node.first_test ≡ end_of s at = (λ z. tests_end s (record-tests s at node e z) (record-first s at node e z)) ∙ tests-after s (tag_count s at) (attribute_count s at) (tests_at s at) ∙ i.whole in
    let f = record-first s at node e in
    let n = i.numbers in
    omega arith

module _ (sheet store : List ℕ) (bytes : (i : ℕ) → get_or sheet i 0 < 256) (f : Forest NodeRecord) (good : Sheet sheet f) (room : size f ≤ length store / 8) where
  abbrev rows : List ℕ
  rows = prog sheet store bytes f good room

  count-is : (a : ℕ) (i : Instruction NodeRecord) → fetch (layout 0 f) a ≡ some i → instructions.tag_count rows a + instructions.attribute_count rows a ≡ tests_of i.says
  count-is a i e = ap₂ (λ (x y : ℕ). x + y) (tag-count sheet store bytes f good room a i e ∙ sym (tags-many sheet store bytes f good room a i e)) (attribute-count sheet store bytes f good room a i e ∙ sym (attributes-many sheet store bytes f good room a i e))

  -- The tests of distinct nodes take no more bytes than the sheet has.
  pub few_bytes : (xs : List ℕ) → Distinct xs → ((x : ℕ) → x ∈ xs → x < size f)
      → sum (map (λ a. instructions.tests_end sheet (instructions.tag_count rows a + instructions.attribute_count rows a) (row_word rows a 1) - row_word rows a 1) xs) ≤ length sheet
  few_bytes xs d h =
      sheet-weight (bytes_of sheet) sheet (bytes-light sheet) f good (λ a. instructions.tests_end sheet (instructions.tag_count rows a + instructions.attribute_count rows a) (row_word rows a 1) - row_word rows a 1)
      (λ a i e.
      ap (λ (n : ℕ). n - row_word rows a 1) (ends_same sheet (instructions.tag_count rows a + instructions.attribute_count rows a) (row_word rows a 1))
      ∙ (λ z. tests_end sheet (count-is a i e z) (word_first sheet store bytes f good room a i e z) - word_first sheet store bytes f good room a i e z)) xs d h
