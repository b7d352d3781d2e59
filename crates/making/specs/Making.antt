-- Making a machine on lent stores (01, sections 2 and 3), for any bytes: the answer, and what the stores hold after it. A refusal leaves all as it was.
use Rattle.std.specs.Prelude.{Bool, cond, not, List, ℕ, ◌+◌, length, Result, Ok, Err}
use Rattle.sheet.specs.Parser.{parse_sheet}
use Rattle.compiler.specs.Compiler.{compiled_of, store_of}
use Rattle.refusals.specs.Numbers.{Judged, sheet_number, number}
use Rattle.stack.specs.Stores.{Stores, fresh_rows}
use Rattle.shapes.specs.Shapes.{made_mark, sized}
use Rattle.weighing.specs.Words.{cell}
use Rattle.making.specs.declared.Unmade.{Unmade}

-- Ready; refused for its sheet, with the number and the place of its first fault; or for a store.
pub data Made : Type 0 where
  Ready : Made
  Sheet : (number place : ℕ) → Made
  Refused : (number : ℕ) → Made

-- What the code answers, in numbers.
abbrev pub made_of : Result Unit Unmade → Made
made_of (Ok _) = Made.Ready
made_of (Err (Unmade.Sheet fault)) = Made.Sheet (sheet_number fault.refusal) fault.place
made_of (Err (Unmade.Refused refusal)) = Made.Refused (number refusal)

-- The answer, the instruction store and the rows after it; the other stores stay as they are.
pub record Fresh : Type 0 where
  pub made : Made
  pub program : List ℕ
  pub rows : List ℕ

abbrev pub fresh : Made → List ℕ → List ℕ → Fresh
fresh made program rows = record { made = made; program = program; rows = rows }

abbrev pub flags_of : (esi types : Bool) → ℕ
flags_of esi types = cond esi 1 0 + cond types 2 0

-- The sheet is refused with its place, or compiled, and nothing is open.
unfoldable pub fresh_of : (sheet : List ℕ) → (esi : Bool) → (program rows : List ℕ) → Judged Bool → Fresh
fresh_of sheet esi program rows (Judged.Refused number place) = fresh (Made.Sheet number place) program rows
fresh_of sheet esi program rows (Judged.Good types) = fresh Made.Ready (store_of (parse_sheet sheet) program) (fresh_rows rows made_mark (cell (length sheet)) (flags_of esi types))

unfoldable pub fresh_call : (sheet : List ℕ) → (esi : Bool) → (program : List ℕ) → Stores → Fresh
fresh_call sheet esi program s =
    cond (not (sized s)) (fresh (Made.Refused 31) program s.rows)
    (fresh_of sheet esi program s.rows (compiled_of (parse_sheet sheet) program))
