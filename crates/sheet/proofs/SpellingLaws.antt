-- A good sheet spells one forest, of N nodes, no deeper than 32, every record and test inside the sheet.
use Prim.Native.Nat.{ℕ, zero, suc, ◌+◌, ◌-◌, ◌≤◌, ◌<◌}
use Rattle.std.proofs.Math.Path.{◌≡◌, refl, ap}
use Rattle.std.proofs.Common.{sym, ◌∙◌}
use Rattle.std.specs.Prelude.{Bool, cond, not, List, ltb, leb, eqb, length, get_or}
use Rattle.std.proofs.Math.Bool.{true, false}
use Rattle.std.proofs.Math.Numerals.{sub-one}
use native.Mathlib.Omega.{arith}
use borrow.Author.Tests.{ltb-false, eqb-true, not-false}
use Rattle.cells.specs.Numbers.{part, be16, be32}
use Rattle.meaning.specs.Document.{child, descendant, by_link}
use Rattle.meaning.specs.Trees.{Forest, Node, width, size, Within}
use Rattle.node_records.specs.Records.{NodeRecord, record_at, end_of, counts_at, tag_count, attribute_count, child_count, descendant_count, tests_at, tests_end}
use Rattle.node_records.specs.Checks.{then_step, kind_ok, body_ok, check_test, check_tests, rising, check_counts, check_ids, check_record}
use Rattle.sheet.specs.Parser.{Parsed, and_then, after_step, tree_size, parse_tree, parse_many, tree_at, parse_trees, parse_end, parse_sheet, node_count, root_count, checked_of}
use Rattle.refusals.specs.Numbers.{Judged}
use Rattle.sheet.specs.Spelling.{TestsInside, Inside, Spells, Sheet}

-- ---- what holds of each reading that is good

module _ {A : Type 0} (P : A → Type 0) where
  -- a test that was passed
  told : (b : Bool) (x y : A) → P x → (b ≡ false → P y) → P (cond b x y)
  told true x y p q = p
  told false x y p q = q refl

module _ (P Q : Judged ℕ → Type 0) (refused : (number place : ℕ) → P (Judged.Refused number place)) where
  then-told : (r : Judged ℕ) (k : ℕ → Judged ℕ) → Q r → ((n : ℕ) → Q (Judged.Good n) → P (k n)) → P (then_step r k)
  unfolding then_step
  then-told (Judged.Refused w p) k q f = refused w p
  then-told (Judged.Good n) k q f = f n q

module _ {B : Type 0} (P : Parsed B → Type 0) (refused : (number place : ℕ) → P (Parsed.refused number place)) where
  after-told : (Q : Judged ℕ → Type 0) (r : Judged ℕ) (k : ℕ → Parsed B) → Q r → ((n : ℕ) → Q (Judged.Good n) → P (k n)) → P (after_step r k)
  unfolding after_step
  after-told Q (Judged.Refused w p) k q f = refused w p
  after-told Q (Judged.Good n) k q f = f n q

  and-told : {A : Type 0} (Q : Parsed A → Type 0) (r : Parsed A) (k : A → ℕ → Parsed B) → Q r → ((x : A) (n : ℕ) → Q (Parsed.read x n) → P (k x n)) → P (and_then r k)
  unfolding and_then
  and-told Q (Parsed.refused w p) k q f = refused w p
  and-told Q (Parsed.read x n) k q f = f x n q

module _ (s : List ℕ) (end : ℕ) where
  abbrev TestOk : ℕ → Judged ℕ → Type 0
  TestOk at (Judged.Refused w p) = Unit
  TestOk at (Judged.Good n) = (n ≡ end_of s at) × ((at + 4 ≤ end_of s at) × (end_of s at ≤ end))

  test : (node : ℕ) (attributes : Bool) (at : ℕ) → TestOk at (check_test s node end attributes at)
  unfolding check_test
  test node attributes at =
      told (TestOk at) (ltb end (at + 2)) _ _ tt (λ a.
      told (TestOk at) (ltb end (end_of s at)) _ _ tt (λ b.
      told (TestOk at) (ltb (be16 s at) 2) _ _ tt (λ d.
      told (TestOk at) (not (kind_ok attributes (get_or s (at + 2) 0))) _ _ tt (λ _.
      told (TestOk at) (ltb 1 (get_or s (at + 3) 0)) _ _ tt (λ _.
      told (TestOk at) (not (body_ok (get_or s (at + 2) 0) (part s (at + 4) (end_of s at)))) _ _ tt (λ _.
      let h = ltb-false (be16 s at) 2 d in (refl, (omega arith, ltb-false end (end_of s at) b))))))))

  abbrev TestsOk : (n at : ℕ) → Judged ℕ → Type 0
  TestsOk n at (Judged.Refused w p) = Unit
  TestsOk n at (Judged.Good m) = (m ≡ tests_end s n at) × TestsInside s end n at

  one_more : (n at m : ℕ) (r : Judged ℕ) → TestOk at (Judged.Good m) → TestsOk n m r → TestsOk (suc n) at r
  unfolding tests_end TestsInside
  one_more n at m (Judged.Refused w p) t o = tt
  one_more n at m (Judged.Good z) t o =
      (o.0 ∙ ap (tests_end s n) t.0, (t.1.0, (t.1.1, rw t.0 at o.1)))

  tests : (node : ℕ) (attributes : Bool) (n at : ℕ) → TestsOk n at (check_tests s node end attributes n at)
  unfolding check_tests tests_end TestsInside
  tests node attributes zero at = (refl, tt)
  tests node attributes (suc n) at =
      then-told (TestsOk (suc n) at) (TestOk at) (λ _ _. tt) (check_test s node end attributes at) _ (test node attributes at)
      (λ m t. one_more n at m (check_tests s node end attributes n m) t (tests node attributes n m))

module _ (s : List ℕ) (at : ℕ) where
  abbrev RecordOk : Judged ℕ → Type 0
  RecordOk (Judged.Refused w p) = Unit
  RecordOk (Judged.Good n) = (n ≡ end_of s at) × Inside s at

  record-told : (b : Bool) (w p : ℕ) (y : Judged ℕ) → (b ≡ false → RecordOk y) → RecordOk (cond b (Judged.Refused w p) y)
  record-told b w p y f = told RecordOk b (Judged.Refused w p) y tt f

  counts : end_of s at ≤ length s → rising 0 (part s (at + 3) (counts_at s at)) ≡ true → RecordOk (check_counts s at (end_of s at) (counts_at s at))
  unfolding check_counts
  counts h w =
      record-told (ltb (end_of s at) (counts_at s at + 2)) 8 at _ (λ a.
      record-told (eqb (tag_count s at + attribute_count s at) 0) 10 at _ (λ b.
      record-told (ltb (end_of s at) (tests_at s at)) 8 at _ (λ d.
      then-told RecordOk (TestsOk s (end_of s at) (tag_count s at) (tests_at s at)) (λ _ _. tt) (check_tests s at (end_of s at) false (tag_count s at) (tests_at s at)) _ (tests s (end_of s at) at false (tag_count s at) (tests_at s at)) (λ q t.
      then-told RecordOk (TestsOk s (end_of s at) (attribute_count s at) q) (λ _ _. tt) (check_tests s at (end_of s at) true (attribute_count s at) q) _ (tests s (end_of s at) at true (attribute_count s at) q) (λ last u.
      record-told (not (eqb last (end_of s at))) 8 at _ (λ e.
      (refl, record { ends = h; rises = w; numbers = ltb-false (end_of s at) (tests_at s at) d; tags = t.1; attributes = rw t.0 at u.1; whole = (sym (ap (tests_end s (attribute_count s at)) t.0) ∙ (sym u.0 ∙ eqb-true last (end_of s at) (not-false _ e))) })))))))

  ids : end_of s at ≤ length s → RecordOk (check_ids s at (end_of s at))
  unfolding check_ids
  ids h =
      record-told (ltb (end_of s at) (at + 3)) 8 at _ (λ a.
      record-told (ltb (end_of s at) (counts_at s at)) 8 at _ (λ b.
      record-told (not (rising 0 (part s (at + 3) (counts_at s at)))) 9 at _ (λ d.
      counts h (not-false _ d))))

  inside : RecordOk (check_record s at)
  unfolding check_record
  inside =
      record-told (ltb (length s) (at + 2)) 8 at _ (λ a.
      record-told (ltb (length s) (end_of s at)) 8 at _ (λ b.
      ids (ltb-false (length s) (end_of s at) b)))

-- ---- trees

-- One tree that was read.
record Grown (s : List ℕ) (depth at : ℕ) (t : Node NodeRecord) (next : ℕ) : Type 0 where
  deep : 0 < depth
  says : t.says ≡ record_at s at
  inside : Inside s at
  mid : ℕ
  children : Spells s (depth - 1) (child_count s at) (end_of s at) (t.below child) mid
  descendants : Spells s (depth - 1) (descendant_count s at) mid (t.below descendant) next

module _ (s : List ℕ) (depth : ℕ) where
  abbrev TreeOk : (at : ℕ) → Parsed (Node NodeRecord) → Type 0
  TreeOk at (Parsed.refused w p) = Unit
  TreeOk at (Parsed.read t m) = Grown s depth at t m

  abbrev TreesOk : (n at : ℕ) → Parsed (Forest NodeRecord) → Type 0
  TreesOk n at (Parsed.refused w p) = Unit
  TreesOk n at (Parsed.read f m) = Spells s depth n at f m

  many : (tree : ℕ → ℕ → Parsed (Node NodeRecord)) → ((at used : ℕ) → TreeOk at (tree at used)) → (n at used : ℕ) → TreesOk n at (parse_many tree n at used)
  unfolding parse_many
  many tree f zero at used = Spells.none refl refl
  many tree f (suc n) at used =
      and-told (TreesOk (suc n) at) (λ _ _. tt) (TreeOk at) (tree at used) _ (f at used) (λ t m g.
      and-told (TreesOk (suc n) at) (λ _ _. tt) (TreesOk n m) (parse_many tree n m (used + tree_size t)) _ (many tree f n m (used + tree_size t)) (λ siblings q h.
      Spells.more {depth = depth} {n = suc n} {next = q} g.mid m (omega arith) g.deep g.says g.inside g.children g.descendants (rw sub-one h)))

module _ (s : List ℕ) (depth : ℕ) (below : ℕ → ℕ → ℕ → Parsed (Forest NodeRecord)) (f : (n at used : ℕ) → TreesOk s depth n at (below n at used)) where
  single : (total at used : ℕ) → TreeOk s (suc depth) at (parse_tree below s total at used)
  unfolding parse_tree
  single total at used =
      told (TreeOk s (suc depth) at) (leb total used) _ _ tt (λ _.
      after-told (TreeOk s (suc depth) at) (λ _ _. tt) (RecordOk s at) (check_record s at) _ (inside s at) (λ next r.
      and-told (TreeOk s (suc depth) at) (λ _ _. tt) (TreesOk s depth (child_count s at) next) (below (child_count s at) next (used + 1)) _ (f (child_count s at) next (used + 1)) (λ children p c.
      and-told (TreeOk s (suc depth) at) (λ _ _. tt) (TreesOk s depth (descendant_count s at) p) (below (descendant_count s at) p (used + 1 + size children)) _ (f (descendant_count s at) p (used + 1 + size children)) (λ descendants q d.
      record { deep = omega arith; says = refl; inside = r.1; mid = p; children = rw (sub-one, ← r.0) c; descendants = rw sub-one d }))))

tree : (depth : ℕ) (s : List ℕ) (total at used : ℕ) → TreeOk s depth at (tree_at depth s total at used)
unfolding tree_at
tree zero s total at used = tt
tree (suc depth) s total at used = single s depth (parse_many (tree_at depth s total)) (many s depth (tree_at depth s total) (tree depth s total)) total at used

-- ---- the sheet

module _ (s : List ℕ) where
  abbrev SheetOk : Parsed (Forest NodeRecord) → Type 0
  SheetOk (Parsed.refused w p) = Unit
  SheetOk (Parsed.read f m) = Sheet s f × (m ≡ length s)

  sheet-told : (b : Bool) (w p : ℕ) (y : Parsed (Forest NodeRecord)) → (b ≡ false → SheetOk y) → SheetOk (cond b (Parsed.refused w p) y)
  sheet-told b w p y f = told SheetOk b (Parsed.refused w p) y tt f

  parsed : SheetOk (parse_sheet s)
  unfolding parse_sheet parse_trees parse_end
  parsed =
      sheet-told (ltb (length s) 9) 1 0 _ (λ a.
      sheet-told (ltb 65536 (length s)) 2 0 _ (λ b.
      sheet-told (not (eqb (get_or s 0 0) 1)) 3 0 _ (λ _.
      sheet-told (not (eqb (be32 s 1) (length s))) 4 0 _ (λ _.
      sheet-told (ltb 1024 (node_count s)) 5 0 _ (λ d.
      and-told SheetOk (λ _ _. tt) (TreesOk s 32 (root_count s) 9) (parse_trees 32 s (node_count s) (root_count s) 9 0) _ (many s 32 (tree_at 32 s (node_count s)) (tree 32 s (node_count s)) (root_count s) 9 0) (λ forest next t.
      sheet-told (not (eqb next (length s))) 13 next _ (λ e.
      sheet-told (not (eqb (size forest) (node_count s))) 13 next _ (λ g.
      let h = eqb-true next (length s) (not-false _ e) in
      (record { long = ltb-false (length s) 9 a; short = ltb-false 65536 (length s) b; few = ltb-false 1024 (node_count s) d; nodes = eqb-true (size forest) (node_count s) (not-false _ g); spelt = rw h at t }, h)))))))))

  -- A sheet that is taken spells its forest.
  pub good-sheet : (forest : Forest NodeRecord) (next : ℕ) → parse_sheet s ≡ Parsed.read forest next → Sheet s forest
  good-sheet forest next e = (rw e at parsed).0

  -- The forest of a checked reading.
  pub record Taken : Type 0 where
    pub forest : Forest NodeRecord
    pub is : parse_sheet s ≡ Parsed.read forest (length s)

  taken_of : (r : Parsed (Forest NodeRecord)) → SheetOk r → Judged.Good tt ≡ checked_of r → parse_sheet s ≡ r → Taken
  unfolding checked_of
  taken_of (Parsed.refused w p) k e f = let z : ◌≡◌ {A = ℕ} 0 1 = cc in absurd (omega arith)
  taken_of (Parsed.read forest m) k e f = record { forest = forest; is = f ∙ ap (Parsed.read forest) k.1 }

  -- A good sheet has a forest,
  pub taken : Judged.Good tt ≡ checked_of (parse_sheet s) → Taken
  taken e = taken_of (parse_sheet s) parsed e refl

  -- and no other.
  pub one-forest : (f g : Forest NodeRecord) (m n : ℕ) → parse_sheet s ≡ Parsed.read f m → parse_sheet s ≡ Parsed.read g n → f ≡ g
  one-forest f g m n a b = cc

-- ---- what spelling says of the forest

module _ {s : List ℕ} where
  -- As many root nodes as were announced.
  pub spelt-width : {depth n at next : ℕ} {f : Forest NodeRecord} → Spells s depth n at f next → width f ≡ n
  spelt-width (Spells.none a b) = sym a
  spelt-width (Spells.more p q hn hd r i c d t) = let h = spelt-width t in omega arith

  -- No node is deeper than the levels that were left.
  pub spelt-within : {depth n at next : ℕ} {f : Forest NodeRecord} → Spells s depth n at f next → Within depth f
  unfolding Within
  spelt-within {depth = zero} (Spells.none a b) = tt
  spelt-within {depth = suc depth} (Spells.none a b) = tt
  spelt-within {depth = zero} (Spells.more p q hn hd r i c d t) = absurd (omega arith)
  spelt-within {depth = suc depth} (Spells.more {below = below} p q hn hd r i c d t) =
      (by_link (λ l. Within depth (below l)) (rw sub-one at (spelt-within c)) (rw sub-one at (spelt-within d)), spelt-within t)

-- The forest of a good sheet is no deeper than 32.
pub depth-32 : {s : List ℕ} {f : Forest NodeRecord} → Sheet s f → Within 32 f
depth-32 g = spelt-within g.spelt
