-- The lines of a trace, as those of the answers that the demand speaks of.
use Rattle.std.specs.Prelude.{◌≡◌, Bool, true, List, [], ◌∷◌, ◌++◌, map, ℕ, ◌<◌, ◌≤◌, Option, None, Some, length, get_or}
use Rattle.match_lines.specs.MatchLines.{match_line}
use Rattle.lines.specs.Lines.{attrs_line, pop_line, refused_line, bad_trace_line}
use Rattle.node_records.specs.Records.{NodeRecord}
use Rattle.sheet.specs.Parser.{Parsed, parse_sheet}
use Rattle.compiler.specs.Compiler.{places}
use Rattle.stack.specs.Stores.{Stores}
use Rattle.shapes.specs.Shapes.{sized}
use Rattle.making.specs.Making.{Made, fresh_call}
use Rattle.meaning.specs.Document as document
use Rattle.meaning.specs.Trees.{Forest, size}
use Rattle.meaning.specs.Elements.{Where, Tag, Given}
use Rattle.meaning.specs.Demand.{idle, Goes}
use Rattle.meaning.specs.Calls.{Answer, matched, attributes_wanted, popped, top_ids, nothing_open, refused}
use Rattle.demand.specs.Sheets.{Lent, lent_tests, sheet_program}
use Rattle.demand.specs.Statement.{HostCall, refusing, call_of, called, answers, made_in}
use Rattle.trace_lines.specs.Lines.{told, text_of, lines_of}
use Rattle.trace_lines.specs.Cuttings.{Cutting}
use Rattle.trace_answers.specs.Calls.{Heard, calls_of}

-- The line of an answer; no record asks for the ids of the top element.
unfoldable pub line_of : Answer (List ℕ) → List ℕ
line_of (matched ids content) = match_line ids content
line_of attributes_wanted = attrs_line
line_of (popped sets) = pop_line (length sets)
line_of (top_ids ids) = []
line_of nothing_open = []
line_of (refused number) = refused_line number

-- The line after the calls of a bad trace.
unfoldable pub bad_line : Option ℕ → List (List ℕ)
bad_line None = []
bad_line (Some at) = bad_trace_line at ∷ []

module _ (sheet program : List ℕ) where
  -- The stores after calls.
  unfoldable pub after_calls : Stores → List HostCall → Stores
  after_calls s [] = s
  after_calls s (x ∷ xs) = after_calls (called sheet program s x).1 xs

  -- A line for the answer to each call, then the last line of a bad trace.
  abbrev pub answer_lines : Stores → Heard → List (List ℕ)
  answer_lines s h = map line_of (answers sheet program s h.calls) ++ bad_line h.bad

-- For any bytes and stores: the lines of a trace are those of the answers to its calls.
abbrev pub LinesAreAnswers : Type 0
LinesAreAnswers =
    (sheet program trace : List ℕ) (s : Stores)
    → lines_of sheet program trace s ≡ told (answer_lines sheet program s (calls_of trace)) (after_calls sheet program s (calls_of trace).calls)

-- A text is the lines of answers that go, on the machine made for a sheet, as the demand over the sheet's selector trees says of a trace's calls; then comes the last line of a bad trace.
abbrev pub Answered : (sheet : List ℕ) → Forest NodeRecord → (esi : Bool) → (program : List ℕ) → Stores → (Where Lent → Tag → Given Lent) → (trace text : List ℕ) → Type 0
Answered sheet forest esi program s ghost trace text =
    let m = fresh_call sheet esi program s in
    let h = calls_of trace in
    (m.made ≡ Made.Ready)
    × Goes lent_tests forest (sheet_program forest) refusing ghost (idle document.start) (map (call_of esi) h.calls) (answers sheet m.program (made_in s m) h.calls)
    × (text ≡ text_of (answer_lines sheet m.program (made_in s m) h))

-- For every good sheet, every trace and every way to cut it into blocks: so is what the runs write.
abbrev pub TracesAreAnswered : Type 0
TracesAreAnswered =
    (sheet : List ℕ) → ((i : ℕ) → get_or sheet i 0 < 256) → (forest : Forest NodeRecord) (next : ℕ) → parse_sheet sheet ≡ Parsed.read forest next
    → (esi : Bool) (program : List ℕ) (s : Stores) → size forest ≤ places program → sized s ≡ true → (ghost : Where Lent → Tag → Given Lent)
    → (trace text : List ℕ) (after : Stores) → Cutting sheet (fresh_call sheet esi program s).program trace 0 (made_in s (fresh_call sheet esi program s)) text after
    → Answered sheet forest esi program s ghost trace text
