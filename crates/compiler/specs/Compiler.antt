-- Compiling (compiler.rs): the answer and the whole store, from the sheet and the store lent.
use Rattle.std.specs.Prelude.{Bool, cond, List, ℕ, ◌/◌, ltb, length}
use Rattle.std.proofs.lemmas.List.Edits.{sets}
use Rattle.meaning.specs.Trees.{Forest, size}
use Rattle.meaning.specs.Layout.{layout}
use Rattle.node_records.specs.Records.{NodeRecord}
use Rattle.sheet.specs.Parser.{Parsed, refused, read}
use Rattle.program.specs.Program.{rows, uses_nth_of_type}
use Rattle.refusals.specs.Numbers.{Judged}

-- How many instructions have room in a store.
abbrev pub places : List ℕ → ℕ
places store = length store / 8

-- The answer: 01's number and place; 15 when the sheet is good and the store has fewer than N places; or made, and whether nth-of-type is in use.
unfoldable pub compiled_of : Parsed (Forest NodeRecord) → List ℕ → Judged Bool
compiled_of (refused number place) store = Judged.Refused number place
compiled_of (read forest next) store =
    cond (ltb (places store) (size forest)) (Judged.Refused 15 0) (Judged.Good (uses_nth_of_type forest))

-- The store: the rows of the forest's layout from its first word on, all else as it was. A refusal writes nothing.
unfoldable pub store_of : Parsed (Forest NodeRecord) → List ℕ → List ℕ
store_of (refused number place) store = store
store_of (read forest next) store =
    cond (ltb (places store) (size forest)) store (sets store 0 (rows (layout 0 forest)))
