-- Where text begins and ends in a buffer: numbers small enough that no sum of them wraps.
use Rattle.std.specs.Prelude.{ℕ, ◌+◌, ◌≤◌}

-- A place in a buffer, where a line or a record may begin.
abbrev pub IsBufferPlace : ℕ → Type 0
IsBufferPlace at = at ≤ 4294967296

-- Where a part of a line may begin.
abbrev pub IsTextPlace : ℕ → Type 0
IsTextPlace at = at ≤ 8589934592

-- Where a line may end that begins at a place: none is longer than 4,096 bytes.
abbrev pub IsLineEnd : (at : ℕ) → (end : ℕ) → Type 0
IsLineEnd at end = end ≤ at + 4096
