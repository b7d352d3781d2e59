-- A call of the machine, the line that answers it, and the stores after it (01, section 8).
use Rattle.std.specs.Prelude.{Bool, List, ℕ, ◌+◌, Option, None, Some, length, replicate}
use Rattle.cells.specs.Stretches.{written}
use Rattle.accepting.specs.Accepting.{Outcome}
use Rattle.ends.specs.Ends.{end_call}
use Rattle.starts.specs.Starts.{start_call}
use Rattle.resumes.specs.Resumes.{attributes_call}
use Rattle.stack.specs.Stores.{Stores, stores}
use Rattle.reply_lines.specs.ReplyLines.{reply_line, popped_line}

-- What a record does: a line and the stores after it; or it is faulty, and they stay.
pub data Turn : Type 0 where
  line : (text : List ℕ) → (after : Stores) → Turn
  faulty : (after : Stores) → Turn

unfoldable pub spoken : Outcome → Turn
spoken o = Turn.line (reply_line o.reply) o.after

-- Room for the ids of 256 popped elements, which are not printed.
unfoldable pub popped_room : List ℕ
popped_room = replicate 512 0

module _ (sheet program : List ℕ) (s : Stores) where
  abbrev pub start_turn : (namespace : ℕ) → (name : List ℕ) → Turn
  start_turn namespace name = spoken (start_call sheet program s namespace name)

  abbrev pub attributes_turn : (closing : Bool) → (body outlines : List ℕ) → Turn
  attributes_turn closing body outlines = spoken (attributes_call sheet program s closing body outlines)

  unfoldable pub end_turn : (name : List ℕ) → Turn
  end_turn name =
      let e = end_call sheet program s name popped_room in
      Turn.line (popped_line e.answer) (stores e.rows s.names s.ids s.nodes)

-- What the code says of a record: where its line ends, none where it is faulty; the buffer and the stores after it.
pub record Answered : Type 0 where
  pub said : Option ℕ
  pub out : List ℕ
  pub after : Stores

abbrev pub answered : Option ℕ → List ℕ → Stores → Answered
answered said out after = record { said = said; out = out; after = after }

unfoldable pub saying : Turn → (out : List ℕ) → (at : ℕ) → Answered
saying (Turn.line text after) out at = answered (Some (at + length text)) (written out at text) after
saying (Turn.faulty after) out at = answered None out after
