-- One record of a trace: the machine's call, the line that answers it, and the stores after it (01, section 8).
use Rattle.std.specs.Prelude.{List, ℕ, Option, None, Some, length, replicate}
use Rattle.cells.specs.Numbers.{part}
use Rattle.records.specs.Records.{record_of}
use Rattle.attribute_records.specs.declared.Record.{Record}
use Rattle.replies.specs.Replies.{Turn, start_turn, attributes_turn, end_turn}
use Rattle.stack.specs.Stores.{Stores}

-- Room for 255 outlines.
unfoldable pub outline_room : List ℕ
outline_room = replicate 1020 0

module _ (sheet program : List ℕ) (s : Stores) where
  -- By what the record says: a start tag's name stands from byte 2 on, an end tag's from byte 1 on; the body is the input that outlines speak of.
  unfoldable pub turn_by : (body : List ℕ) → Option Record → (outlines : List ℕ) → Turn
  turn_by body (Some (Record.Start namespace)) outlines = start_turn sheet program s namespace (part body 2 (length body))
  turn_by body (Some (Record.Attributes closing n)) outlines = attributes_turn sheet program s closing body (part outlines 0 n)
  turn_by body (Some Record.End) outlines = end_turn sheet program s (part body 1 (length body))
  turn_by body None outlines = Turn.faulty s

  unfoldable pub turn_of : (body : List ℕ) → Turn
  turn_of body = turn_by body (record_of body outline_room).said (record_of body outline_room).outlines
