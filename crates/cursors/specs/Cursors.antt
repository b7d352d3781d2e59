-- The live instructions, as the cursors that stand on them (01, sections 3 and 9).
use Rattle.std.specs.Prelude.{cond, List, [], ◌∷◌, ◌++◌, map, ℕ, zero, suc, ◌+◌, ◌-◌, ◌*◌, eqb, ltb, leb, get_or, Option, Some, None}
use Rattle.instructions.specs.Instructions.{row_word}
use Rattle.cursors.specs.declared.Cursor.{Cursor}
use Rattle.cursors.specs.declared.Ranges.{Ranges}

-- A cursor by its stage, the slot of the next node, and its range: where it stands and where the range stops.
abbrev pub cursor_of : ℕ → ℕ → ℕ → ℕ → Cursor
cursor_of stage slot at stop = record { stage = stage; slot = slot; at = at; stop = stop }

-- The cursor at the first root.
unfoldable pub first_cursor : ℕ → ℕ → Cursor
first_cursor slot roots = cursor_of 0 slot 0 roots

-- The cursor past the instruction that it stands on.
unfoldable pub after_cursor : Cursor → Cursor
after_cursor c = cond (ltb c.at c.stop) (cursor_of c.stage c.slot (c.at + 1) c.stop) c

-- The cursor at the range of the node in a slot; w is 3 for its child range and 5 for its descendant range.
unfoldable pub range_at : List ℕ → List ℕ → ℕ → ℕ → ℕ → Cursor
range_at program nodes w stage slot =
    cursor_of stage (slot + 1) (row_word program (get_or nodes slot 0) w)
    (row_word program (get_or nodes slot 0) w + get_or program (get_or nodes slot 0 * 8 + w + 1) 0)

-- The next range: of the parents in slot .. parents_top at stage 0, then of the ancestors in ancestors_from .. ancestors_top at stage 1.
unfoldable pub jump_of : List ℕ → List ℕ → Ranges → Cursor → Option Cursor
jump_of program nodes ranges c =
    cond (eqb c.stage 0)
    (cond (ltb c.slot ranges.parents_top) (Some (range_at program nodes 3 0 c.slot)) (Some (cursor_of 1 ranges.ancestors_from 0 0)))
    (cond (ltb c.slot ranges.ancestors_top) (Some (range_at program nodes 5 1 c.slot)) None)

-- How many instructions a range has from a place on; a range that ends past the last instruction is not followed.
unfoldable pub left_in : ℕ → ℕ → ℕ → ℕ
left_in limit at stop = cond (leb stop limit) (stop - at) 0

-- The cursors on n neighbouring instructions of one range.
unfoldable pub ride : ℕ → ℕ → ℕ → ℕ → ℕ → List Cursor
ride stage slot stop at zero = []
ride stage slot stop at (suc n) = cursor_of stage slot at stop ∷ ride stage slot stop (at + 1) n

-- The cursors of the range that a cursor stands in, from it on.
abbrev pub in_range : ℕ → Cursor → List Cursor
in_range limit c = ride c.stage c.slot c.stop c.at (left_in limit c.at c.stop)

-- The cursors of the ranges of n nodes from a slot on.
unfoldable pub rides : List ℕ → List ℕ → ℕ → ℕ → ℕ → ℕ → ℕ → List Cursor
rides program nodes limit w stage slot zero = []
rides program nodes limit w stage slot (suc n) = in_range limit (range_at program nodes w stage slot) ++ rides program nodes limit w stage (slot + 1) n

-- What is left after the range that a cursor stands in.
unfoldable pub later : List ℕ → List ℕ → Ranges → ℕ → ℕ → List Cursor
later program nodes ranges stage slot =
    cond (eqb stage 0)
    (rides program nodes ranges.limit 3 0 slot (ranges.parents_top - slot)
    ++ rides program nodes ranges.limit 5 1 ranges.ancestors_from (ranges.ancestors_top - ranges.ancestors_from))
    (rides program nodes ranges.limit 5 1 slot (ranges.ancestors_top - slot))

-- What is left at a cursor, as the cursors that stand on it.
unfoldable pub rest : List ℕ → List ℕ → Ranges → Cursor → List Cursor
rest program nodes ranges c = in_range ranges.limit c ++ later program nodes ranges c.stage c.slot

-- The addresses of the instructions that cursors stand on.
abbrev pub ats : List Cursor → List ℕ
ats cs = map (λ c. c.at) cs

-- n neighbouring addresses.
unfoldable pub span : ℕ → ℕ → List ℕ
span a zero = []
span a (suc n) = a ∷ span (a + 1) n

-- The instructions of a node's range: w is 3 for its child range and 5 for its descendant range.
unfoldable pub hangs : List ℕ → ℕ → ℕ → ℕ → List ℕ
hangs program limit w node =
    span (row_word program node w) (left_in limit (row_word program node w) (row_word program node w + get_or program (node * 8 + w + 1) 0))
