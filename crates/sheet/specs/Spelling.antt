-- What a good sheet spells: a forest, its records and tests inside the sheet.
use Rattle.std.specs.Prelude.{ℕ, zero, suc, ◌+◌, ◌-◌, ◌≤◌, ◌<◌, ◌≡◌, true, List, length}
use Rattle.cells.specs.Numbers.{part}
use Rattle.meaning.specs.Document.{Link, child, descendant}
use Rattle.meaning.specs.Trees.{Forest, size}
use Rattle.node_records.specs.Records.{NodeRecord, record_at, end_of, counts_at, tag_count, attribute_count, child_count, descendant_count, tests_at, tests_end}
use Rattle.node_records.specs.Checks.{rising}
use Rattle.sheet.specs.Parser.{node_count, root_count}

-- So many tests, each with room for kind and negation, end before the record does.
unfoldable pub TestsInside : List ℕ → (end n at : ℕ) → Type 0
TestsInside s end zero at = Unit
TestsInside s end (suc n) at = (at + 4 ≤ end_of s at) × ((end_of s at ≤ end) × TestsInside s end n (end_of s at))

-- A record inside the sheet, its ids rising and at most 127, its four numbers and its tests inside the record, no byte over.
pub record Inside (s : List ℕ) (at : ℕ) : Type 0 where
  pub ends : end_of s at ≤ length s
  pub rises : rising 0 (part s (at + 3) (counts_at s at)) ≡ true
  pub numbers : tests_at s at ≤ end_of s at
  pub tags : TestsInside s (end_of s at) (tag_count s at) (tests_at s at)
  pub attributes : TestsInside s (end_of s at) (attribute_count s at) (tests_end s (tag_count s at) (tests_at s at))
  pub whole : tests_end s (attribute_count s at) (tests_end s (tag_count s at) (tests_at s at)) ≡ end_of s at

-- The bytes from a place on spell so many trees, no deeper than so many levels, and they end at another place.
pub data Spells (s : List ℕ) : (depth n at : ℕ) → Forest NodeRecord → (next : ℕ) → Type 0 where
  none : {depth n at next : ℕ} → n ≡ 0 → next ≡ at → Spells s depth n at Forest.end next
  more : {depth n at next : ℕ} {node : NodeRecord} {below : Link → Forest NodeRecord} {siblings : Forest NodeRecord} (p q : ℕ) → 0 < n → 0 < depth → node ≡ record_at s at → Inside s at →
      Spells s (depth - 1) (child_count s at) (end_of s at) (below child) p →
      Spells s (depth - 1) (descendant_count s at) p (below descendant) q →
      Spells s depth (n - 1) q siblings next →
      Spells s depth n at (Forest.tree node below siblings) next

-- A good sheet and its forest.
pub record Sheet (s : List ℕ) (forest : Forest NodeRecord) : Type 0 where
  pub long : 9 ≤ length s
  pub short : length s ≤ 65536
  pub few : node_count s ≤ 1024
  pub nodes : size forest ≡ node_count s
  pub spelt : Spells s 32 (root_count s) 9 forest (length s)
