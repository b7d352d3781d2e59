-- Records of a trace (01, section 8). A byte past the end reads as 0, so the end of a piece alone says whether all of it is there.
use Rattle.std.specs.Prelude.{cond, List, ℕ, ◌+◌, Option, None, Some, eqb, ltb, length, get_or}
use Rattle.cells.specs.Numbers.{be16}
use Rattle.attribute_records.specs.AttributeRecords.{Read, read, attributes_of}
use Rattle.attribute_records.specs.declared.Record.{Record}

-- A record is a u16 length and so many bytes, its body; where it ends, if all of it is there.
unfoldable pub record_end : (block : List ℕ) → (at : ℕ) → Option ℕ
record_end block at = cond (ltb (length block) (at + 2 + be16 block at)) None (Some (at + 2 + be16 block at))

-- Kind 1, start: a namespace, then the name to the end.
unfoldable pub start_of : (body : List ℕ) → Option Record
start_of body = cond (ltb (length body) 2) None (Some (Record.Start (get_or body 1 0)))

-- What a body says: its kind, then by its kind. Kind 3 is an end tag, the name to the end.
unfoldable pub record_of : (body outlines : List ℕ) → Read
record_of body o =
    cond (eqb (get_or body 0 0) 1) (read (start_of body) o)
    (cond (eqb (get_or body 0 0) 2) (attributes_of body o)
    (cond (eqb (get_or body 0 0) 3) (read (Some Record.End) o) (read None o)))
