-- Text in a buffer, and numbers in decimal, in ASCII.
use Rattle.std.specs.Prelude.{cond, List, [], ◌∷◌, ◌++◌, ◌≡◌, ℕ, zero, suc, ◌+◌, ◌/◌, ◌%◌, ltb, length}
use Rattle.cells.specs.Stretches.{written}

-- A text stands in a buffer from a place on and ends at r; what falls past the buffer's end is lost.
abbrev pub Wrote : (before : List ℕ) → (at : ℕ) → (text : List ℕ) → (r : ℕ) → (after : List ℕ) → Type 0
Wrote before at text r after = (r ≡ at + length text) × (after ≡ written before at text)

-- The last k digits of n, the first of them no zero unless n is.
unfoldable pub digits : (k n : ℕ) → List ℕ
digits zero n = []
digits (suc k) n = cond (ltb n 10) ((48 + n % 10) ∷ []) (digits k (n / 10) ++ ((48 + n % 10) ∷ []))

-- A number of 64 bits has at most 20 digits.
unfoldable pub decimal : ℕ → List ℕ
decimal n = digits 20 n
