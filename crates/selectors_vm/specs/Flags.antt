-- The flags that a C caller hands over.
use Rattle.std.specs.Prelude.{Bool, not, ℕ, eqb}

-- A flag is off at 0 and on otherwise (01, section 8).
abbrev pub is_on : ℕ → Bool
is_on flag = not (eqb flag 0)
