-- Places in a sheet.
use Rattle.std.specs.Prelude.{ℕ, ◌≤◌}

-- A place in a sheet, or its length: a good sheet has at most 65,536 bytes.
abbrev pub IsSheetPlace : ℕ → Type 0
IsSheetPlace at = at ≤ 65536
