-- The program's turns over a trace, and the demand over selector trees.
use Rattle.std.specs.Prelude.{◌≡◌, Bool, true, List, ℕ, ◌<◌, ◌≤◌, get_or}
use Rattle.node_records.specs.Records.{NodeRecord}
use Rattle.sheet.specs.Parser.{Parsed, parse_sheet}
use Rattle.compiler.specs.Compiler.{places}
use Rattle.stack.specs.Stores.{Stores}
use Rattle.shapes.specs.Shapes.{sized}
use Rattle.making.specs.Making.{fresh_call}
use Rattle.meaning.specs.Trees.{Forest, size}
use Rattle.meaning.specs.Elements.{Where, Tag, Given}
use Rattle.demand.specs.Sheets.{Lent}
use Rattle.demand.specs.Statement.{made_in}
use Rattle.trace_answers.specs.Answering.{Answered}
use Rattle.trace_turns.specs.Turns.{at_start, Turns}

-- For every good sheet and every trace of bytes, however much each read brings: what the turns write is the lines of the answers that the demand speaks of.
abbrev pub TurnsAreAnswered : Type 0
TurnsAreAnswered =
    (sheet : List ℕ) → ((i : ℕ) → get_or sheet i 0 < 256) → (forest : Forest NodeRecord) (next : ℕ) → parse_sheet sheet ≡ Parsed.read forest next
    → (esi : Bool) (program : List ℕ) (s : Stores) → size forest ≤ places program → sized s ≡ true → (ghost : Where Lent → Tag → Given Lent)
    → (trace input text : List ℕ) (after : Stores) → ((i : ℕ) → get_or trace i 0 < 256)
    → Turns sheet (fresh_call sheet esi program s).program at_start input trace (made_in s (fresh_call sheet esi program s)) text after
    → Answered sheet forest esi program s ghost trace text
