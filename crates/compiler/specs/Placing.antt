-- The compiler's recursion, step by step on the sheet's bytes: what it leaves in the store, and the room that it needs.
use Rattle.std.specs.Prelude.{Bool, false, ◌||◌, List, ℕ, zero, suc, ◌+◌, ◌*◌, ◌≤◌}
use Rattle.std.proofs.lemmas.List.Edits.{sets}
use Rattle.meaning.specs.Trees.{Forest, size}
use Rattle.node_records.specs.Records.{NodeRecord, record_at, end_of, child_count, descendant_count}
use Rattle.sheet.specs.Spelling.{Inside, Spells}
use Rattle.program.specs.Program.{row, any_of_type, instruction_at}

-- The store, where the next record is, and the first address that is free.
pub record Laid : Type 0 where
  pub store : List ℕ
  pub next : ℕ
  pub free : ℕ

-- One node at a slot: its child block with all below it, its descendant block, then its own row.
unfoldable pub lay_node : (ℕ → ℕ → ℕ → ℕ → List ℕ → Laid) → List ℕ → (at slot free : ℕ) → List ℕ → Laid
lay_node below s at slot free store =
    let c = below (child_count s at) (end_of s at) free (free + child_count s at) store in
    let d = below (descendant_count s at) c.next c.free (c.free + descendant_count s at) c.store in
    record { store = sets d.store (slot * 8) (row (instruction_at s at free c.free)); next = d.next; free = d.free }

-- So many nodes side by side, from a slot on.
unfoldable pub lay_many : (ℕ → ℕ → ℕ → List ℕ → Laid) → (n at slot free : ℕ) → List ℕ → Laid
lay_many node zero at slot free store = record { store = store; next = at; free = free }
lay_many node (suc n) at slot free store =
    let one = node at slot free store in lay_many node n one.next (slot + 1) one.free one.store

unfoldable pub lay_at : ℕ → List ℕ → (at slot free : ℕ) → List ℕ → Laid
lay_at zero s at slot free store = record { store = store; next = at; free = free }
lay_at (suc depth) s at slot free store = lay_node (lay_many (lay_at depth s)) s at slot free store

unfoldable pub lay_trees : ℕ → List ℕ → (n at slot free : ℕ) → List ℕ → Laid
lay_trees depth s = lay_many (lay_at depth s)

-- Trees that a good sheet spells, their block reserved before what is free, room for all below them.
pub record Room (s : List ℕ) (depth n at slot free : ℕ) : Type 0 where
  pub forest : Forest NodeRecord
  pub next : ℕ
  pub spelt : Spells s depth n at forest next
  pub own : slot + n ≤ free
  pub below : free + size forest ≤ 1024 + n

-- So many records, one after the other, inside the sheet.
unfoldable pub RecordsInside : List ℕ → (n at : ℕ) → Type 0
RecordsInside s zero at = Unit
RecordsInside s (suc n) at = Inside s at × RecordsInside s n (end_of s at)

-- Some record of so many, one after the other, has a test of kind 5.
unfoldable pub records_use : List ℕ → (n at : ℕ) → Bool
records_use s zero at = false
records_use s (suc n) at = any_of_type (record_at s at).tag_tests || records_use s n (end_of s at)
