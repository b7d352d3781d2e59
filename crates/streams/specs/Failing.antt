-- What a read that fails part way leaves of what a reader had.
use Rattle.std.specs.Prelude.{ℕ, List, Option, take}
use Rattle.std.specs.Io.KnownBytes.{Consumes}

-- Some front of the bytes was taken.
abbrev pub ConsumesFront : Option (List ℕ) → Option (List ℕ) → List ℕ → Type 0
ConsumesFront old new bytes = (n : ℕ) × Consumes old new (take n bytes)
