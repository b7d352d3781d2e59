-- Parts of a slice, and the big-endian numbers that bytes spell (01, section 1). A byte past the end reads as 0.
use Rattle.std.specs.Prelude.{List, ℕ, ◌+◌, ◌-◌, ◌*◌, ◌^◌, ◌<◌, ℤ, get_or, take, drop}
use Rattle.std.specs.Int.{w32}
use Rattle.std.proofs.Common.{to_z}

-- A place in a store, or a number of cells: sums of a few of them never wrap.
abbrev pub IsPlace : ℕ → Type 0
IsPlace n = n < 2 ^ 48

-- The elements from one index up to another, as far as there are any.
abbrev pub part : List ℕ → ℕ → ℕ → List ℕ
part s from to = take (to - from) (drop from s)

-- The number that two bytes spell, the higher first.
unfoldable pub be16 : List ℕ → ℕ → ℕ
be16 s at = get_or s at 0 * 256 + get_or s (at + 1) 0

-- The number that four bytes spell.
unfoldable pub be32 : List ℕ → ℕ → ℕ
be32 s at = be16 s at * 65536 + be16 s (at + 2)

-- The same four bytes in two's complement.
unfoldable pub i32_at : List ℕ → ℕ → ℤ
i32_at s at = to_z w32 (be32 s at)
