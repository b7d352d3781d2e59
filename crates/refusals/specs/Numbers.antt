-- The numbers of refusals (01, section 2).
use Rattle.std.specs.Prelude.{ℕ, Result, Ok, Err}
use Rattle.refusals.specs.declared.SheetRefusal.{SheetRefusal}
use Rattle.refusals.specs.declared.Fault.{Fault}
use Rattle.refusals.specs.declared.Refusal.{Refusal}

-- Of a sheet: 1 to 13 by its bytes, 15 by the room for its instructions. 14 is no refusal.
abbrev pub sheet_number : SheetRefusal → ℕ
sheet_number SheetRefusal.SheetTooShort = 1
sheet_number SheetRefusal.SheetTooLong = 2
sheet_number SheetRefusal.WrongVersion = 3
sheet_number SheetRefusal.WrongLength = 4
sheet_number SheetRefusal.TooManyNodes = 5
sheet_number SheetRefusal.TooDeep = 6
sheet_number SheetRefusal.MoreNodesThanSaid = 7
sheet_number SheetRefusal.RecordOverrun = 8
sheet_number SheetRefusal.BadIds = 9
sheet_number SheetRefusal.NoTest = 10
sheet_number SheetRefusal.UnknownKind = 11
sheet_number SheetRefusal.BadTest = 12
sheet_number SheetRefusal.LeftOver = 13
sheet_number SheetRefusal.ProgramTooShort = 15

abbrev pub fault : SheetRefusal → ℕ → Fault
fault refusal place = record { refusal = refusal; place = place }

-- What a sheet, or a piece of it, is judged: good, with what was read; or the number and the place of its first fault.
pub data Judged (A : Type 0) : Type 0 where
  Refused : (number place : ℕ) → Judged A
  Good : A → Judged A

-- What the code answers, in numbers.
abbrev pub judged : {A : Type 0} → Result A Fault → Judged A
judged (Ok x) = Judged.Good x
judged (Err fault) = Judged.Refused (sheet_number fault.refusal) fault.place

-- Of a call.
abbrev pub number : Refusal → ℕ
number Refusal.BadName = 20
number Refusal.BadNamespace = 21
number Refusal.TagWaits = 22
number Refusal.NoTagWaits = 23
number Refusal.BadOutlines = 24
number Refusal.ChildCountFull = 25
number Refusal.TooManyTypes = 26
number Refusal.TooManyOpen = 27
number Refusal.TooManyMatched = 28
number Refusal.BufferTooShort = 29
number Refusal.BadShape = 30
number Refusal.StoreTooShort = 31

-- The number of what a test of a call found: 0 is no refusal.
abbrev pub number_of : Result Unit Refusal → ℕ
number_of (Ok _) = 0
number_of (Err refusal) = number refusal
