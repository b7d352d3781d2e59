-- A whole input of the program: a sheet, then a trace (01, section 8).
use Rattle.std.specs.Prelude.{true, false, List, ℕ, ◌+◌, length}
use Rattle.cells.specs.Numbers.{part}
use Rattle.cells.specs.Stretches.{written}
use Rattle.lines.specs.Lines.{refused_line, sheet_line}
use Rattle.making.specs.Making.{Made, fresh_call}
use Rattle.records.specs.Sheets.{sheet_end}
use Rattle.stack.specs.Stores.{Stores, stores}
use Rattle.trace.specs.Run.{feed_of}

-- How many bytes of lines, then the instruction store, the buffer of lines and the stores after it.
pub record Whole : Type 0 where
  pub wrote : ℕ
  pub program : List ℕ
  pub out : List ℕ
  pub after : Stores

abbrev pub whole_run : ℕ → List ℕ → List ℕ → Stores → Whole
whole_run wrote program out after = record { wrote = wrote; program = program; out = out; after = after }

-- A refused sheet is the only line; else the trace is answered.
unfoldable pub whole_by : (sheet trace : List ℕ) → Made → (program out : List ℕ) → Stores → Whole
whole_by sheet trace Made.Ready program out s =
    let r = feed_of sheet program trace true 0 out s in
    whole_run r.fed.wrote program r.out r.after
whole_by sheet trace (Made.Sheet n place) program out s = whole_run (0 + length (sheet_line n place)) program (written out 0 (sheet_line n place)) s
whole_by sheet trace (Made.Refused n) program out s = whole_run (0 + length (refused_line n)) program (written out 0 (refused_line n)) s

-- ESI is off.
unfoldable pub whole_of : (input program out : List ℕ) → Stores → Whole
whole_of input program out s =
    let sheet = part input 0 (sheet_end input) in
    let f = fresh_call sheet false program s in
    whole_by sheet (part input (sheet_end input) (length input)) f.made f.program out (stores f.rows s.names s.ids s.nodes)
