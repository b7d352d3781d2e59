-- Where a lookup finds the value in the input: the start and the end that the outline says.
use Rattle.std.specs.Prelude.{true, false, cond, List, [], ◌∷◌, ℕ, Option, Some, None}
use Rattle.cells.specs.Numbers.{part}
use Rattle.letters.specs.Bytes.{same_bytes}

-- The value of the first attribute whose lower-cased name is the wanted one.
unfoldable pub find_in : List ℕ → List ℕ → List ℕ → Option (ℕ × ℕ)
find_in input wanted [] = None
find_in input wanted (a ∷ []) = None
find_in input wanted (a ∷ (b ∷ [])) = None
find_in input wanted (a ∷ (b ∷ (c ∷ []))) = None
find_in input wanted (a ∷ (b ∷ (c ∷ (d ∷ more)))) = cond (same_bytes true false (part input a b) wanted) (Some (c, d)) (find_in input wanted more)
