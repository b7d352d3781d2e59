-- Where the calls of a library case stand in its input, and how far its lines go.
use Rattle.std.specs.Prelude.{List, ℕ, ◌≤◌, length}
use Rattle.calls.specs.declared.State.{State}

-- A call may begin here, and its line too.
abbrev pub Within : State → Type 0
Within s = (s.at ≤ 131072) × (s.wrote ≤ 131072)

-- A call may be read here off this input.
abbrev pub Ready : State → List ℕ → Type 0
Ready s input = (length input ≤ 131072) × Within s

-- So far a call reads and writes at most.
abbrev pub Left : State → Type 0
Left s = (s.at ≤ 262144) × (s.wrote ≤ 143360)
