-- An+B (Selectors 4, `:nth-child()`; 01, section 3): position i holds for step a and offset b when some whole n >= 0 has a * n + b = i.
use Rattle.std.specs.Prelude.{◌≡◌, Bool, false, ℕ, zero, suc, ◌%◌, eqb, ℤ, pos, negsuc, ◌+ℤ◌, ◌-ℤ◌, ◌*ℤ◌}

-- The definition, over all whole numbers.
unfoldable pub Nth : ℤ → ℤ → ℤ → Type 0
Nth step offset i = (n : ℕ) × (step *ℤ pos n +ℤ offset ≡ i)

-- Whether the second number is the first times some n >= 0.
abbrev pub multiple_of : ℤ → ℤ → Bool
multiple_of (pos a) (negsuc d) = false
multiple_of (pos zero) (pos d) = eqb d 0
multiple_of (pos (suc a)) (pos d) = eqb (d % suc a) 0
multiple_of (negsuc a) (pos d) = eqb d 0
multiple_of (negsuc a) (negsuc d) = eqb (suc d % suc a) 0

-- The same, decided (`nth-law` says that it is).
unfoldable pub nth_holds : ℤ → ℤ → ℤ → Bool
nth_holds step offset i = multiple_of step (i -ℤ offset)
