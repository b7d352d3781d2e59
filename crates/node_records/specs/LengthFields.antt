-- Bytes that hold a length field.
use Rattle.std.specs.Prelude.{List, ℕ, ◌≤◌, length}

-- A sheet of two bytes or more: the room of a record's length field.
abbrev pub HoldsLengthField : List ℕ → Type 0
HoldsLengthField s = 2 ≤ length s
