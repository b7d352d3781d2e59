-- Places in a trace.
use Rattle.std.specs.Prelude.{ℕ, ◌≤◌}

-- Where a block of a trace may begin: to it a block's length can be added.
abbrev pub IsTracePlace : ℕ → Type 0
IsTracePlace place = place ≤ 9223372036854775808
